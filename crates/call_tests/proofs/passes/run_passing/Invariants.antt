use Rattle.root_ops.specs.TurnView.{steps_to_come}
use Rattle.call_tests.proofs.passes.run_passing.Given as goal

abbrev pub decreases-loop-turn : goal.decreases-loop-turn
decreases-loop-turn g l = steps_to_come l.turn
