use Rattle.std.proofs.Common.{◌≡◌, ◌-◌, ◌++◌, length}
use Rattle.std.specs.Option.{option_map}
use Rattle.tree_model.specs.State.{names_within}
use Rattle.tree_steps.proofs.read.names_below.Given as goal

-- the names so far, and those within the parents that are left, are all
abbrev pub invariant-loop : goal.invariant-loop
invariant-loop l =
    option_map (λ rest. l.names ++ rest) (names_within (length l.nodes - l.counter) l.nodes l.top l.at) ≡ names_within (length l.nodes) l.nodes l.top l.fn.x
