-- What the code of a turn comes to, in the words of `Turns`.
use Rattle.std.specs.Prelude.{◌≡◌, ℕ, Bool}
use Rattle.tree_model.specs.declared.answer.Answer.{Answer}
use Rattle.tree_model.specs.StepWith.{StepWith}
use Rattle.root_ops.specs.Order.{CallTurn, take, due}
use Rattle.root_ops.specs.View.{CallView}
use Rattle.race_core.specs.Book.{BookedHistory}
use Rattle.race_core.specs.Turns.{stepped_by}

-- the step was made through the book, or there was no memory for it
pub record IsStepped (old : BookedHistory) (a : ℕ) (step : StepWith ℕ) (answer : Answer)
    (new : BookedHistory) : Type 0 where
  pub luck : Bool
  pub is_answer : answer ≡ (stepped_by luck old a step).answer
  pub left : new ≡ (stepped_by luck old a step).book

-- the due step of the call was made so, and its answer taken
pub record Advances (old : BookedHistory) (a : ℕ) (call : CallView) (turn : CallTurn)
    (new : BookedHistory) : Type 0 where
  pub luck : Bool
  pub room : Bool
  pub is_turn : turn ≡ take call.below room call.doing (stepped_by luck old a (due call.below call.doing)).answer
  pub left : new ≡ (stepped_by luck old a (due call.below call.doing)).book
