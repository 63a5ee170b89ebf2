use Rattle.step_resolver.specs.TurnView.{steps_to_come}
use Rattle.command_tests.proofs.walks.walked.Given as goal

abbrev pub decreases-loop-turn : goal.decreases-loop-turn
decreases-loop-turn g l = steps_to_come l.turn
