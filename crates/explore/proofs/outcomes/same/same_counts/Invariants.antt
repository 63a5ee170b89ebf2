use Rattle.std.proofs.Common.{◌≡◌, ◌<◌, ℕ}
use Rattle.tree_model.specs.Steps.{held_count}
use Rattle.explore.proofs.outcomes.same.same_counts.Given as goal

abbrev pub invariant-loop-at : goal.invariant-loop-at
invariant-loop-at g l = (a : ℕ) → a < l.at → held_count (g.T.Tree.state l.tree) a ≡ held_count (g.T.Tree.state l.other) a
