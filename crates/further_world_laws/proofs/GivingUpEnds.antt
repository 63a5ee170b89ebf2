-- Every call under way can be given up: each step leaves fewer, and nothing is made but Closes.
use Rattle.std.specs.Prelude.{◌≡◌, ◌≤◌, ◌<◌, ℕ, zero, suc, List, [], ◌∷◌, ◌++◌, Bool, true, false, if◌then◌else◌, Option, Some, None, refl}
use Rattle.std.proofs.Common.{sym, ap, ◌∙◌, arith}
use Rattle.path_text.specs.declared.errno.Errno.{Errno}
use Rattle.path_text.specs.declared.errno.Errno.TheVariants.{NoMemory}
use Rattle.tree_model.specs.declared.answer.Answer.TheVariants.{Refused}
use Rattle.tree_model.specs.StepWith.{StepWith}
use Rattle.tree_model.specs.declared.step.StepOf.TheVariants as steps
use Rattle.root_ops.specs.declared.below.Below.{Below}
use Rattle.root_ops.specs.Order.{CallTurn, more, ends, take, due, steps_left}
use Rattle.root_ops.specs.View.{CallView}
use Rattle.root_ops.proofs.Steps.{IsFewer, take_fewer}
use Rattle.race_core.specs.Book.{BookedHistory, is_close, refusal}
use Rattle.race_core.specs.GivenUp.{GoesWithout, closed_all, GivesCallUp}
use Rattle.race_core.specs.Turns.{Stepped, unless_refused, stepped_by}
use Rattle.race_core.proofs.GivenUp.{closed_both}
use Rattle.further_world_laws.specs.GivenUpWorlds.{GivingUpEnds}
use Rattle.root_ops.proofs.FirstSteps.{fewer_still}

-- ---- a step without memory

record IsClosed (a : ℕ) (book after : BookedHistory) : Type 0 where
  pub closed : List ℕ
  pub is : after ≡ closed_all a book closed

close_or_not : (book : BookedHistory) (a h : ℕ) (why : Option Errno) → IsClosed a book (unless_refused book a (steps.Close h) why).book
close_or_not book a h None = record { closed = h ∷ []; is = refl }
close_or_not book a h (Some error) = record { closed = []; is = refl }

not_closed : (book : BookedHistory) (a : ℕ) (step : StepWith ℕ) → is_close step ≡ false → IsClosed a book (stepped_by false book a step).book
not_closed book a step e = record {
  closed = [];
  is = ap
      (λ (b : Bool). (if b then unless_refused book a step (refusal book a step) else record { answer = Refused NoMemory; book = book }).book) e;
}

stepped_closed : (book : BookedHistory) (a : ℕ) (step : StepWith ℕ) → IsClosed a book (stepped_by false book a step).book
stepped_closed book a (steps.Close h) = close_or_not book a h (refusal book a (steps.Close h))
stepped_closed book a step = not_closed book a step refl

-- ---- a call

-- the call goes to its end without memory, and closes these
record GoesOut (a : ℕ) (below : Below) (book : BookedHistory) (t : CallTurn) : Type 0 where
  pub rooms : List Bool
  pub after : BookedHistory
  pub goes : GoesWithout a below book t rooms after
  pub closed : List ℕ
  pub is : after ≡ closed_all a book closed

goes_out : (k a : ℕ) (below : Below) (book : BookedHistory) (t : CallTurn) → IsFewer below k t → GoesOut a below book t
goes_out k a below book (ends reply) few = record { rooms = []; after = book; goes = refl; closed = []; is = refl }
goes_out zero a below book (more doing) few = absurd (omega (arith, few))
goes_out (suc k) a below book (more doing) few =
    let step : Stepped = stepped_by false book a (due below doing) in
    let next : CallTurn = take below true doing step.answer in
    let left : steps_left below doing ≤ k = omega (arith, few) in
    let here = stepped_closed book a (due below doing) in
    let rest = goes_out k a below step.book next (fewer_still below (steps_left below doing) k next left (take_fewer below true doing step.answer)) in
    record {
      rooms = true ∷ rest.rooms;
      after = rest.after;
      goes = rest.goes;
      closed = here.closed ++ rest.closed;
      is = rest.is ∙ (ap (λ (b : BookedHistory). closed_all a b rest.closed) here.is ∙ sym (closed_both a book here.closed rest.closed));
    }

gives_call_up : (a : ℕ) (book : BookedHistory) (doing : Option CallView) → (after : BookedHistory) × GivesCallUp a book doing after
gives_call_up a book None = (book, refl)
gives_call_up a book (Some view) =
    let few : steps_left view.below view.doing < suc (steps_left view.below view.doing) = omega arith in
    let out = goes_out (suc (steps_left view.below view.doing)) a view.below book (more view.doing) few in
    (out.after, record { rooms = out.rooms; goes = out.goes; closed = out.closed; is = out.is })

pub giving_up_ends : GivingUpEnds
giving_up_ends book [] = (book, refl)
giving_up_ends book (seat ∷ seats) =
    let one = gives_call_up seat.ledger.root.owner.actor book seat.doing in
    let rest = giving_up_ends one.0 seats in
    (rest.0, (one.0, one.1, rest.1))
