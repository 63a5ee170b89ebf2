use Rattle.schedule_graph.proofs.Spreading.{IsSpread}
use Rattle.schedule_graph.proofs.counting.spread.Given as goal

abbrev pub invariant-loop-edge : goal.invariant-loop-edge
invariant-loop-edge l = IsSpread l.layers l.k l.s l.edge-items l.edge-index l.next
