use Rattle.std.proofs.Common.{◌≡◌, drop}
use Rattle.tree_model.specs.State.{TOP}
use Rattle.tree_model.specs.Steps.{directory_at}
use Rattle.tree_steps.proofs.read.directory_at.Given as goal

-- what the names that are left lead to is what all lead to
abbrev pub invariant-loop-next : goal.invariant-loop-next
invariant-loop-next l = directory_at l.nodes l.at (drop l.next l.names) ≡ directory_at l.nodes TOP l.names
