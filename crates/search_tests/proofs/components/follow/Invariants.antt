use Rattle.local_states.specs.Counting.{IsTally}
use Rattle.search_tests.proofs.components.follow.Given as goal

abbrev pub invariant-loop-actor : goal.invariant-loop-actor
invariant-loop-actor l = IsTally l.world l.tally
