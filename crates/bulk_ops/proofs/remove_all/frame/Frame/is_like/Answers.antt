use Rattle.bulk_ops.proofs.LikeFrames.{levels_alike, alike_levels}
use Rattle.bulk_ops.proofs.remove_all.frame.Frame.is_like.Goals as goal

pub returns : goal.returns
returns c = (
  (λ t. levels_alike c.args.self.now c.args.other.now (c.same_from.ensures.0 t)),
  (λ like. c.same_from.ensures.1 (alike_levels c.args.self.now c.args.other.now like)),
)
