-- What the turns of a call to MkdirAll tell, in every legal history in which the call's lines led to them.
use Rattle.std.specs.Prelude.{◌≡◌}
use Rattle.path_text.specs.Reading.{Reading}
use Rattle.tree_model.specs.declared.answer.Answer.{Answer}
use Rattle.step_machine.specs.Tells.{Histories}
use Rattle.step_machine.specs.Tells as machine
use Rattle.step_resolver.specs.Order.{Way}
use Rattle.step_resolver.specs.WalkHistory.{WalkInHistory, IsWalkInHistory}
use Rattle.bulk_ops.specs.MakeAllOrder.{Making, MakeTurn, begins, starts, calls}
use Rattle.bulk_ops.specs.MakeAllTells.{MakeTells}
use Rattle.bulk_ops.specs.MakeAllView.{MakingView, IsTurn}
use Rattle.bulk_ops.specs.declared.turn.BulkTurn.{BulkTurn}

-- the legal histories of calls on this way
abbrev pub histories : Way → Histories MakeTurn
histories way = record {
  History = WalkInHistory;
  Is = λ w. IsWalkInHistory w × (w.way ≡ way);
  begun = λ w. begins way w.path;
  lines = λ w. w.lines;
  Tells = MakeTells;
}

-- The turn is what the order of steps makes of the answer, with room or without; and it tells this of each history
-- in which the call was led here and then told this answer.
unfoldable pub TellsTaken : Way → Making → Answer → BulkTurn MakingView → Type 0
TellsTaken way call answer result = machine.TellsTaken (calls way) (histories way) (IsTurn result) call answer

-- The first turn is the one with which the order of steps begins, and it tells this of each history in which a call
-- that began so was told no more than that its first step wasn't made, where one that would go on found no memory.
unfoldable pub TellsBegun : Way → Reading → BulkTurn MakingView → Type 0
TellsBegun way path result =
    machine.TellsBegun (calls way) (histories way) (begins way path) (λ room. starts way room path) (IsTurn result)
