use Rattle.std.proofs.Common.{◌≡◌, ◌≤◌, ◌+◌, ◌-◌, length, take, vec_len, vec_capacity}
use Rattle.race_core.proofs.world.copy.copy_seats.Given as goal

-- the first so many are copied, there is room for the others, and the book is as it was
abbrev pub invariant-loop-seat : goal.invariant-loop-seat
invariant-loop-seat g l = record {
  same : l.copies.items ≡ take l.seat-index l.seats;
  room : vec_len l.copies + (length l.seats - l.seat-index) ≤ vec_capacity l.copies;
  book : l.book ≡ l.initial.book;
}
