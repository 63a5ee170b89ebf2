use Rattle.std.proofs.Common.{◌≡◌, take}
use Rattle.race_core.proofs.copy.copy_calls.Given as goal

abbrev pub invariant-loop-at : goal.invariant-loop-at
invariant-loop-at l = l.copies.items ≡ take l.at l.calls.items
