use Rattle.std.proofs.Common.{◌≡◌, ℕ, length, Some}
use Rattle.std.specs.Prelude.{slice_get}
use Rattle.schedule_graph.specs.declared.graph.Edge.{Edge}
use Rattle.search_tests.proofs.graphs.edges_of.Given as goal

abbrev pub invariant-loop-at : goal.invariant-loop-at
invariant-loop-at l = record {
  so_many : length l.edges.items ≡ l.at;
  numbered : (i : ℕ) (edge : Edge) → slice_get l.edges.items i ≡ Some edge → edge.label ≡ i;
}
