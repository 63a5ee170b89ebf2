use Rattle.std.proofs.Common.{◌≡◌, length}
use Rattle.layered_search.specs.Spreading.{AreFirstEdges, AreConfigurationsFrom}
use Rattle.layered_search.proofs.frontier.edges.all_edges.Given as goal

abbrev pub invariant-loop-at : goal.invariant-loop-at
invariant-loop-at l = record {
  many : length l.all.items ≡ l.at;
  edges : AreFirstEdges l.bounds l.configurations l.choices l.places l.next.items l.all.items;
  successor : AreConfigurationsFrom l.configurations l.choices l.places l.next.items;
}
