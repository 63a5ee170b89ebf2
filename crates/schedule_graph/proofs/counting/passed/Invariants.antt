use Rattle.std.proofs.Common.{◌≡◌, ◌+◌, length}
use Rattle.schedule_graph.specs.Led.{width_at, IsNext, AreTold}
use Rattle.schedule_graph.proofs.counting.passed.Given as goal

abbrev pub invariant-loop-s : goal.invariant-loop-s
invariant-loop-s l = record {
  width : length l.next.items ≡ width_at l.layers (l.k + 1);
  next : IsNext l.layers l.k l.s l.next.items;
  classes : length l.counts.classes.items ≡ length l.initial.counts.classes.items;
  counts : AreTold l.layers l.k l.s l.counts;
}
