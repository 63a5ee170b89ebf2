use Rattle.std.proofs.Common.{◌≡◌, ◌++◌, drop}
use Rattle.std.specs.List.{flat_map}
use Rattle.drawings.specs.Events.{spaced}
use Rattle.drawings.proofs.events.add_names.Given as goal

-- what is written and what is left to write make the whole
abbrev pub invariant-loop-at : goal.invariant-loop-at
invariant-loop-at l = l.out ++ flat_map spaced (drop l.at l.names) ≡ l.fn.out ++ flat_map spaced l.names
