use Rattle.root_ops.specs.TurnView.{steps_to_come}
use Rattle.call_tests.proofs.calls.run.Given as goal

abbrev pub decreases-loop-steps : goal.decreases-loop-steps
decreases-loop-steps g l = steps_to_come l.turn
