use Rattle.scripts.specs.Schedule.{turn_at}
use Rattle.scripts.proofs.Each.{IsReadSoFar}
use Rattle.scripts.proofs.schedule.turns_of.Given as goal

abbrev pub invariant-loop-at : goal.invariant-loop-at
invariant-loop-at l = IsReadSoFar (turn_at l.actors) l.turns l.at l.schedule.items
