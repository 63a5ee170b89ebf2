use Rattle.layered_search.specs.Transitions.{AreNoTransitions}
use Rattle.layered_search.proofs.frontier.transitions.no_transitions.Given as goal

abbrev pub invariant-loop-at : goal.invariant-loop-at
invariant-loop-at l = AreNoTransitions l._at l.transitions.items
