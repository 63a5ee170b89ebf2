use Rattle.std.proofs.Common.{◌≡◌, ◌+◌, ◌≤◌, ◌++◌, vec_len, vec_capacity}
use Rattle.std.specs.Vec.Iter.{into_iter_items, into_iter_len}
use Rattle.race_core.specs.Worlds.{AllOver, ledgers_in}
use Rattle.race_core.proofs.world.vacate.Given as goal

abbrev pub invariant-loop-seat : goal.invariant-loop-seat
invariant-loop-seat g l = record {
  over : AllOver (into_iter_items l.seats);
  ledgers : l.ledgers.items ++ ledgers_in (into_iter_items l.seats) ≡ l.initial.ledgers.items ++ ledgers_in (into_iter_items l.initial.seats);
  room : vec_len l.ledgers + into_iter_len l.seats ≤ vec_capacity l.ledgers;
  book : l.book ≡ l.initial.book;
}

abbrev pub decreases-loop-seat : goal.decreases-loop-seat
decreases-loop-seat g l = into_iter_len l.seats
