use Rattle.std.specs.Vec.Iter.{into_iter_items, into_iter_len}
use Rattle.race_core.specs.Book.{BookedHistory}
use Rattle.race_core.specs.GivenUp.{AllGiveUp}
use Rattle.race_core.proofs.world.clear.Given as goal

-- what giving up the others leads to is what giving all up leads to
abbrev pub invariant-loop-seat : goal.invariant-loop-seat
invariant-loop-seat g l = record {
  onward : (after : BookedHistory) → AllGiveUp l.book (into_iter_items l.seats) after → AllGiveUp l.initial.book (into_iter_items l.initial.seats) after;
}

abbrev pub decreases-loop-seat : goal.decreases-loop-seat
decreases-loop-seat g l = into_iter_len l.seats
