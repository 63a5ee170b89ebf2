use Rattle.schedule_graph.specs.Words.{IsLayer}
use Rattle.search_tests.proofs.graphs.layer_of.Given as goal

abbrev pub invariant-loop-drawn : goal.invariant-loop-drawn
invariant-loop-drawn l = IsLayer l.layer.items
