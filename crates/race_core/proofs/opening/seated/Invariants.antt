use Rattle.std.proofs.Common.{◌≡◌, ◌+◌, ◌≤◌, ◌++◌, vec_len, vec_capacity}
use Rattle.std.specs.Vec.Iter.{into_iter_items, into_iter_len}
use Rattle.race_core.specs.Opening.{seats_of}
use Rattle.race_core.proofs.opening.seated.Given as goal

abbrev pub invariant-loop-ledger : goal.invariant-loop-ledger
invariant-loop-ledger l = record {
  seats : l.seats.items ++ seats_of (into_iter_items l.ledgers) ≡ l.initial.seats.items ++ seats_of (into_iter_items l.initial.ledgers);
  room : vec_len l.seats + into_iter_len l.ledgers ≤ vec_capacity l.seats;
}

abbrev pub decreases-loop-ledger : goal.decreases-loop-ledger
decreases-loop-ledger l = into_iter_len l.ledgers
