-- A step through the book, from what the book's contract tells of it.
use Rattle.std.proofs.Common.{◌≡◌, ℕ, Bool, true, false, Option, Some, None, Result, Ok, Err, MatchOption, refl, sym, ap, subst, ◌∙◌}
use Rattle.path_text.specs.declared.errno.Errno.{Errno}
use Rattle.path_text.specs.declared.errno.Errno.TheVariants.{NoMemory}
use Rattle.tree_model.specs.declared.answer.Answer.{Answer}
use Rattle.tree_model.specs.declared.answer.Answer.TheVariants.{Refused}
use Rattle.tree_model.specs.StepWith.{StepWith}
use Rattle.root_ops.specs.Order.{CallTurn, take, due}
use Rattle.root_ops.specs.TurnView.{TakesTo}
use Rattle.root_ops.specs.View.{CallView}
use Rattle.race_core.specs.Advance.{IsStepped, Advances}
use Rattle.race_core.specs.Book.{BookedHistory, is_close, refusal, answer_now, booked}
use Rattle.race_core.specs.Turns.{unless_refused}

abbrev ok : Answer → Result Answer Errno
ok answer = Ok answer

abbrev err : Errno → Result Answer Errno
err error = Err error

module _ (book : BookedHistory) (a : ℕ) (step : StepWith ℕ) where
  made_unless : (r : Option Errno) (answer : Answer) (new : BookedHistory)
      → MatchOption r (answer ≡ answer_now book a step) (λ fault. ok answer ≡ Err fault) → new ≡ booked book a step
      → (answer ≡ (unless_refused book a step r).answer) × (new ≡ (unless_refused book a step r).book)
  made_unless None answer new is left = (is, left)
  made_unless (Some fault) answer new is left = cc

  -- the book answered
  pub made : (answer : Answer) (new : BookedHistory)
      → MatchOption (refusal book a step) (answer ≡ answer_now book a step) (λ fault. ok answer ≡ Err fault) → new ≡ booked book a step
      → IsStepped book a step answer new
  made answer new is left =
      let at = made_unless (refusal book a step) answer new is left in
      record { luck = true; is_answer = at.0; left = at.1 }

  by_want : (closes : Bool) → is_close step ≡ closes → closes ≡ false → (new : BookedHistory) → new ≡ book → IsStepped book a step (Refused NoMemory) new
  by_want closes is none new left = record {
    luck = false;
    is_answer = rw (is ∙ none) refl;
    left = rw (is ∙ none) left;
  }

  refused_by : (r : Option Errno) → r ≡ refusal book a step → (error : Errno) (new : BookedHistory)
      → MatchOption r ((error ≡ NoMemory) × (is_close step ≡ false)) (λ fault. err error ≡ Err fault) → new ≡ book
      → IsStepped book a step (Refused error) new
  refused_by None is error new why left = subst (λ e. IsStepped book a step (Refused e) new) (sym why.0) (by_want (is_close step) refl why.1 new left)
  refused_by (Some fault) is error new why left = record {
    luck = true;
    is_answer = rw (← is) cc;
    left = rw (← is) left;
  }

  -- the book refused it
  pub refused : (error : Errno) (new : BookedHistory)
      → MatchOption (refusal book a step) ((error ≡ NoMemory) × (is_close step ≡ false)) (λ fault. err error ≡ Err fault) → new ≡ book
      → IsStepped book a step (Refused error) new
  refused error new why left = refused_by (refusal book a step) refl error new why left

-- the answer was taken
pub advanced : (book : BookedHistory) (a : ℕ) (call : CallView) (answer : Answer) (new : BookedHistory) (turn : CallTurn)
    → IsStepped book a (due call.below call.doing) answer new → TakesTo call.below call.doing answer turn → Advances book a call turn new
advanced book a call answer new turn made taken = record {
  luck = made.luck;
  room = taken.0;
  is_turn = taken.1 ∙ ap (λ v. take call.below taken.0 call.doing v) made.is_answer;
  left = made.left;
}
