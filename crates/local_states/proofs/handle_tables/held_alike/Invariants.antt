use Rattle.std.proofs.Common.{◌≡◌, take}
use Rattle.local_states.proofs.handle_tables.held_alike.Given as goal

abbrev pub invariant-loop-at : goal.invariant-loop-at
invariant-loop-at l = take l.at l.nodes ≡ take l.at l.others
