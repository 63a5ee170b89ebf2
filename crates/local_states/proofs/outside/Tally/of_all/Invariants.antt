use Rattle.std.proofs.Common.{◌≡◌, take}
use Rattle.local_states.specs.Outside.{outside_from, roots_from}
use Rattle.local_states.proofs.outside.Tally.of_all.Given as goal

abbrev pub invariant-loop-at : goal.invariant-loop-at
invariant-loop-at g l = record {
  roots : l.roots.items ≡ roots_from l.world.book.opening 0 (take l.at l.world.seats);
  counts : l.counts.items ≡ outside_from l.world.book 0 l.roots.items;
}
