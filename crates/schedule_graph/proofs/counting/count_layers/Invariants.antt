use Rattle.std.proofs.Common.{◌≡◌, length}
use Rattle.schedule_graph.specs.Led.{width_at, IsTable, AreTold}
use Rattle.schedule_graph.proofs.counting.count_layers.Given as goal

abbrev pub invariant-loop-k : goal.invariant-loop-k
invariant-loop-k l = record {
  width : length l.table.items ≡ width_at l.layers l.k;
  table : IsTable l.layers l.k l.table.items;
  classes : length l.counts.classes.items ≡ l.fn.classes;
  counts : AreTold l.layers l.k 0 l.counts;
}
