-- What the turns of a RemoveAll call tell, in every legal history in which the call's lines led to them. unlink(2),
-- rmdir(2).
use Rattle.std.specs.Prelude.{◌≡◌, List, ℕ, false}
use Rattle.path_text.specs.Reading.{Reading}
use Rattle.tree_model.specs.declared.answer.Answer.{Answer}
use Rattle.step_machine.specs.Tells.{Histories}
use Rattle.step_machine.specs.Tells as machine
use Rattle.step_resolver.specs.Asked.{is_deepest}
use Rattle.step_resolver.specs.Order.{Way}
use Rattle.step_resolver.specs.WalkHistory.{WalkInHistory, IsWalkInHistory}
use Rattle.bulk_ops.specs.declared.turn.BulkTurn.{BulkTurn}
use Rattle.bulk_ops.specs.RemoveAllOrder.{Removing, Turn, begins, starts, calls}
use Rattle.bulk_ops.specs.RemoveAllTurnView.{IsTurn}
use Rattle.bulk_ops.specs.RemoveAllTells.{Tells}

-- the legal histories of calls, each for its target, whose walks are to their paths' ends
abbrev pub histories : Histories Turn
histories = record {
  History = WalkInHistory × List ℕ;
  Is = λ w. IsWalkInHistory w.0 × (is_deepest w.0.way.goal ≡ false);
  begun = λ w. begins w.0.way w.1 w.0.path;
  lines = λ w. w.0.lines;
  Tells = λ w turn. Tells w.0 w.1 turn;
}

-- The turn is what the order of steps makes of the answer, with room or without; and it tells this of each history
-- in which the call was led here and then told this answer.
unfoldable pub TellsTaken : Removing → Answer → BulkTurn Removing → Type 0
TellsTaken call answer outcome = machine.TellsTaken calls histories (IsTurn outcome) call answer

-- The first turn is the one with which the order of steps begins, and it tells this of each history in which a call
-- that began so was told no more than that its first step wasn't made, where one that would go on found no memory.
unfoldable pub TellsBegun : Way → List ℕ → Reading → BulkTurn Removing → Type 0
TellsBegun way target path outcome =
    machine.TellsBegun calls histories (begins way target path) (λ room. starts way room target path) (IsTurn outcome)
