use Rattle.std.proofs.Common.{◌≡◌, ◌<◌, length, ◌∙◌, sym, arith}
use Rattle.std.proofs.lemmas.Bool.{true≢false, false≢true}
use Rattle.bulk_ops.proofs.MappedLists.{same_at}
use Rattle.race_core.proofs.like.like_queues.Goals as goal

pub returns-then-not-is_like : goal.returns-then-not-is_like
returns-then-not-is_like g c = (
  (λ t. absurd (false≢true t)),
  (λ e. let lt : c.loop-at.at < length c.args.queue.now.items = omega (arith, c.args.queue.now.ok.0, c.len.ensures, c.len-at-end.ensures, c.loop-at-test.true) in
      let one : g.L.Like.by (λ h. 0) c.index-one.result.now ≡ g.L.Like.by (λ h. 0) c.index.result.now =
      same_at (g.L.Like.by (λ h. 0)) c.args.queue.now.items c.args.other.now.items c.loop-at.at c.index-one.result.now c.index.result.now e lt c.index-one.ensures c.index.ensures in
      absurd (true≢false (sym (c.is_like.ensures.1 one) ∙ c.if-not-is_like.true))),
)
