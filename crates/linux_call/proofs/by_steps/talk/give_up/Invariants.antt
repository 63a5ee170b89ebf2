use Rattle.root_ops.specs.TurnView.{steps_to_come}
use Rattle.linux_call.proofs.by_steps.talk.give_up.Given as goal

-- each answer leaves fewer steps to come
abbrev pub decreases-loop-turn : goal.decreases-loop-turn
decreases-loop-turn l = steps_to_come l.turn
