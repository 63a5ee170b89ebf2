use Rattle.std.proofs.Common.{◌≡◌, length}
use Rattle.layered_search.specs.Distinct.{Keeps}
use Rattle.layered_search.specs.Spreading.{AreConfigurationsBy, AreEachEdge}
use Rattle.layered_search.proofs.frontier.edges.edges_from.Given as goal

abbrev pub invariant-loop-at : goal.invariant-loop-at
invariant-loop-at l = record {
  many : length l.edges.items ≡ l.at;
  keeps : Keeps l.fn.next.items l.next.items;
  configurations : AreConfigurationsBy l.configuration l.choices l.places l.fn.next.items l.next.items;
  each : AreEachEdge l.bounds l.configuration l.choices l.places l.next.items l.edges.items;
}
