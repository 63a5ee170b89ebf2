use Rattle.step_resolver.specs.TurnView.{steps_to_come}
use Rattle.walk_tests.proofs.walks.give_up.Given as goal

abbrev pub decreases-loop-turn : goal.decreases-loop-turn
decreases-loop-turn l = steps_to_come l.turn
