use Rattle.root_ops.specs.TurnView.{steps_to_come}
use Rattle.race_core.proofs.GivenUp.{LedFrom}
use Rattle.race_core.proofs.advance.give_up.Given as goal

-- what leads on from here leads there from the beginning
abbrev pub invariant-loop-turn : goal.invariant-loop-turn
invariant-loop-turn g l = record { led : LedFrom l.actor l.fn.book l.fn.call l.book l.turn }

abbrev pub decreases-loop-turn : goal.decreases-loop-turn
decreases-loop-turn g l = steps_to_come l.turn
