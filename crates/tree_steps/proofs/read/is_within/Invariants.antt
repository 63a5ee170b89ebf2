use Rattle.std.proofs.Common.{◌≡◌, ◌-◌, length}
use Rattle.std.specs.Prelude.{is_some}
use Rattle.tree_model.specs.State.{names_within}
use Rattle.tree_steps.proofs.read.is_within.Given as goal

-- what is within the parents that are left is within all
abbrev pub invariant-loop : goal.invariant-loop
invariant-loop l =
    is_some (names_within (length l.nodes - l.counter) l.nodes l.top l.at) ≡ is_some (names_within (length l.nodes) l.nodes l.top l.fn.x)
