use Rattle.std.proofs.Common.{◌≡◌, sym, ◌∙◌}
use Rattle.std.proofs.lemmas.Bool.{eqb-true}
use Rattle.bulk_ops.specs.RemoveAllView.{to_close, end_of}
use Rattle.bulk_ops.specs.Renamed.{numbers_by}
use Rattle.bulk_ops.proofs.LikeFrames.{as_many, same_many}
use Rattle.bulk_ops.proofs.remove_all.clearing.Closing.is_like.Goals as goal

pub returns-then-count : goal.returns-then-count
returns-then-count c =
    let many : numbers_by (λ h. 0) (to_close c.args.self.now) ≡ numbers_by (λ h. 0) (to_close c.args.other.now) =
    as_many _ _ (sym c.count.ensures ∙ (c.if-count.true ∙ c.count-2.ensures)) in (
      (λ t. let end : end_of c.args.self.now.end ≡ end_of c.args.other.now.end = c.same_ends.ensures.0 t in cc),
      (λ like. c.same_ends.ensures.1 (let end : end_of c.args.self.now.end ≡ end_of c.args.other.now.end = cc in end)),
    )

pub returns-else-count : goal.returns-else-count
returns-else-count c = (
  (λ t. absurd (c.if-count.false (eqb-true _ _ t))),
  (λ like. absurd (c.if-count.false (c.count.ensures ∙ (same_many (to_close c.args.self.now) (to_close c.args.other.now) (let q : numbers_by (λ h. 0) (to_close c.args.self.now) ≡ numbers_by (λ h. 0) (to_close c.args.other.now) = cc in q) ∙ sym c.count-2.ensures)))),
)
