use Rattle.std.proofs.Common.{◌≡◌}
use Rattle.std.proofs.lemmas.Bool.{eqb-true}
use Rattle.bulk_ops.proofs.LikeStages.{same_count_passed, same_chain}
use Rattle.bulk_ops.proofs.make_all.Chain.same.Goals as goal

pub returns-then-self-other : goal.returns-then-self-other
returns-then-self-other c = (
  (λ t. let names : c.args.self.now.names ≡ c.args.other.now.names = c.same.ensures.0 t in
      let done : c.args.self.now.done ≡ c.args.other.now.done = c.if-self-other.true in (cc, cc)),
  (λ p. c.same.ensures.1 (same_chain _ _ _ _ c.requires.self_within c.requires.other_within p.0 p.1)),
)

pub returns-else-self-other : goal.returns-else-self-other
returns-else-self-other c = (
  (λ t. absurd (c.if-self-other.false (eqb-true _ _ t))),
  (λ p. absurd (c.if-self-other.false (same_count_passed _ _ _ _ c.requires.self_within c.requires.other_within p.0))),
)
