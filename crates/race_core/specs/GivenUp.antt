-- A call that is given up: it goes on to its end without memory, so that nothing but its Closes is made.
use Rattle.std.specs.Prelude.{◌≡◌, ℕ, List, [], ◌∷◌, Bool, false, Option, Some, None}
use Rattle.tree_model.specs.declared.step.StepOf.TheVariants.{Close}
use Rattle.root_ops.specs.declared.below.Below.{Below}
use Rattle.root_ops.specs.Order.{CallTurn, more, ends, take, due}
use Rattle.root_ops.specs.View.{CallView}
use Rattle.race_core.specs.Book.{BookedHistory, booked}
use Rattle.race_core.specs.declared.seat.Seat.{Seat}
use Rattle.race_core.specs.Turns.{stepped_by}

-- From this turn on the call goes to its end, and there is memory for no step: a Close takes none. `rooms` says of
-- each step whether there was room for what its answer brings.
abbrev pub GoesWithout : ℕ → Below → BookedHistory → CallTurn → List Bool → BookedHistory → Type 0
GoesWithout a below book (ends reply) [] after = after ≡ book
GoesWithout a below book (more doing) (room ∷ rooms) after =
    let step = stepped_by false book a (due below doing) in
    GoesWithout a below step.book (take below room doing step.answer) rooms after
GoesWithout a below book (ends reply) (room ∷ rooms) after = ⊥
GoesWithout a below book (more doing) [] after = ⊥

-- the book once an actor has closed these handles, one after another
abbrev pub closed_all : ℕ → BookedHistory → List ℕ → BookedHistory
closed_all a book [] = book
closed_all a book (h ∷ hs) = closed_all a (booked book a (Close h)) hs

-- The call was given up so, and its events are the actor's Closes alone.
pub record IsGivenUp (a : ℕ) (book : BookedHistory) (call : CallView) (after : BookedHistory) : Type 0 where
  pub rooms : List Bool
  pub goes : GoesWithout a call.below book (more call.doing) rooms after
  pub closed : List ℕ
  pub is : after ≡ closed_all a book closed

-- so it is of an actor's call under way, if there is one
abbrev pub GivesCallUp : ℕ → BookedHistory → Option CallView → BookedHistory → Type 0
GivesCallUp a book None after = after ≡ book
GivesCallUp a book (Some call) after = IsGivenUp a book call after

abbrev pub GivesUp : BookedHistory → Seat → BookedHistory → Type 0
GivesUp book seat after = GivesCallUp seat.ledger.root.owner.actor book seat.doing after

-- and of all actors, one after another
abbrev pub AllGiveUp : BookedHistory → List Seat → BookedHistory → Type 0
AllGiveUp book [] after = after ≡ book
AllGiveUp book (seat ∷ seats) after =
    (middle : BookedHistory) × GivesUp book seat middle × AllGiveUp middle seats after
