use Rattle.local_states.specs.Paired.{IsApartBefore}
use Rattle.local_states.proofs.handle_tables.is_apart_before.Given as goal

abbrev pub invariant-loop-at : goal.invariant-loop-at
invariant-loop-at l = IsApartBefore l.handles l.others l.here l.there l.at
