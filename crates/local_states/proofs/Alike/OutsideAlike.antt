-- What is counted outside of a root with one event more; and what a turn leaves.
use Rattle.std.specs.Prelude.{◌≡◌, ◌⊎◌, ℕ, zero, suc, List, [], ◌∷◌, ◌++◌, ◌==◌, ◌&&◌, ◌||◌, Bool, true, false, Option, Some, None, slice_get, slice_set, if◌then◌else◌, refl}
use Rattle.std.proofs.Common.{sym, ap, ◌∙◌, subst, inl, inr}
use Rattle.std.proofs.lemmas.Option.{same_Some}
use Rattle.path_text.specs.declared.errno.Errno.{Errno}
use Rattle.path_text.specs.declared.errno.Errno.TheVariants.{NoMemory}
use Rattle.tree_model.specs.declared.answer.Answer.{Answer}
use Rattle.tree_model.specs.declared.answer.Answer.TheVariants.{Opened, Text, Names, NotBelow, Listed, Done, Refused}
use Rattle.tree_model.specs.declared.answer.Event.{Event}
use Rattle.tree_model.specs.StepWith.{StepWith}
use Rattle.tree_model.specs.History.{after_event, after_events}
use Rattle.tree_model.specs.State.{State}
use Rattle.tree_model.specs.Steps.{held}
use Rattle.root_ops.specs.Order.{due}
use Rattle.root_ops.specs.View.{CallView}
use Rattle.race_core.specs.declared.seat.Seat.{Seat}
use Rattle.race_core.specs.Book.{BookedHistory, is_close, is_done, refusal, booked}
use Rattle.race_core.specs.Ledgers.{LedgerView}
use Rattle.race_core.specs.Turns.{Luck, unless_refused, stepped_by, begun, goes_on, turned}
use Rattle.race_core.specs.Worlds.{WorldView, turn_of, turn}
use Rattle.race_core.specs.Renamed.{answer_by}
use Rattle.race_core.proofs.BookMoves.{turn_keeps_root}
use Rattle.local_states.specs.Outside.{plus, acts_outside, outside_after, roots_from, roots_of}
use Rattle.layered_search.proofs.Places.{plus_swap}

-- ---- one event more

pub after_push : (a : ℕ) (root : Option ℕ) (s : State) (events : List Event) (last : Event)
    → outside_after a root s (events ++ last ∷ []) ≡ plus
    ((last.actor == a) && acts_outside root (after_events s events) last) (outside_after a root s events)
after_push a root s [] last = refl
after_push a root s (event ∷ events) last =
    ap (λ n. plus ((event.actor == a) && acts_outside root s event) n)
    (after_push a root (after_event s event) events last)
    ∙ plus_swap ((event.actor == a) && acts_outside root s event)
    ((last.actor == a) && acts_outside root (after_events (after_event s event) events) last)
    (outside_after a root (after_event s event) events)

pub blind_done : (f : ℕ → ℕ) (answer : Answer) → is_done (answer_by f answer) ≡ is_done answer
blind_done f (Opened h x kind) = refl
blind_done f (Text text) = refl
blind_done f (Names names) = refl
blind_done f NotBelow = refl
blind_done f (Listed names) = refl
blind_done f Done = refl
blind_done f (Refused error) = refl

-- ---- what a turn leaves: the opening tree and each actor's root

pub stepped_books : (luck : Bool) (book : BookedHistory) (a : ℕ) (step : StepWith ℕ)
    → ((stepped_by luck book a step).book ≡ book) ⊎ ((stepped_by luck book a step).book ≡ booked book a step)
stepped_books luck book a step = by (luck || is_close step) (refusal book a step)
  where
    by : (d : Bool) (refused : Option Errno)
        → ((if d then unless_refused book a step refused else record { answer = Refused NoMemory; book = book }).book
        ≡ book)
        ⊎ ((if d then unless_refused book a step refused else record { answer = Refused NoMemory; book = book }).book
        ≡ booked book a step)
    by true (Some error) = inl refl
    by true None = inr refl
    by false refused = inl refl

-- the book after a turn: as before, or with one event more
pub data IsOneOn (book : BookedHistory) : BookedHistory → Type 0 where
  as_it_was : IsOneOn book book
  one_more : (a : ℕ) (step : StepWith ℕ) → IsOneOn book (booked book a step)

goes_books : (luck room : Bool) (book : BookedHistory) (ledger : LedgerView) (doing : Option CallView)
    → IsOneOn book (goes_on luck room book ledger doing).book
goes_books luck room book ledger None = as_it_was
goes_books luck room book ledger (Some call) =
    by (stepped_books luck book ledger.root.owner.actor (due call.below call.doing))
  where
    by : ((stepped_by luck book ledger.root.owner.actor (due call.below call.doing)).book ≡ book)
        ⊎ ((stepped_by luck book ledger.root.owner.actor (due call.below call.doing)).book
        ≡ booked book ledger.root.owner.actor (due call.below call.doing))
        → IsOneOn book (stepped_by luck book ledger.root.owner.actor (due call.below call.doing)).book
    by (inl e) = subst (λ b. IsOneOn book b) (sym e) as_it_was
    by (inr e) = subst (λ b. IsOneOn book b) (sym e) (one_more ledger.root.owner.actor (due call.below call.doing))

pub turn_books : (luck : Luck) (w : WorldView) (i : ℕ) → IsOneOn w.book (turn luck w i).book
turn_books luck w i = by (slice_get w.seats i)
  where
    by : (seat : Option Seat) → IsOneOn w.book (turn_of luck w i seat).book
    by None = as_it_was
    by (Some seat) =
        let seat' = begun luck.start seat.ledger seat.doing in
        goes_books luck.step luck.room w.book seat'.ledger seat'.doing

one_opening : (book after : BookedHistory) → IsOneOn book after → after.opening ≡ book.opening
one_opening book after as_it_was = refl
one_opening book after (one_more a step) = refl

roots_set : (s : State) (a : ℕ) (seats : List Seat) (i : ℕ) (seat new : Seat) → slice_get seats i ≡ Some seat
    → new.ledger.root ≡ seat.ledger.root
    → roots_from s a (slice_set seats i new) ≡ roots_from s a seats
roots_set s a [] i seat new e r = refl
roots_set s a (first ∷ seats) zero seat new e r =
    let same : first ≡ seat = same_Some first seat e in
    let root = r ∙ ap (λ (x : Seat). x.ledger.root) (sym same) in
    λ i. held s a (root i).handle ∷ roots_from s (suc a) seats
roots_set s a (first ∷ seats) (suc i) seat new e r =
    ap (λ rest. held s a first.ledger.root.handle ∷ rest) (roots_set s (suc a) seats i seat new e r)

pub roots_stay : (told : Bool) (luck : Luck) (w : WorldView) (i : ℕ) → roots_of told (turn luck w i) ≡ roots_of told w
roots_stay false luck w i = refl
roots_stay true luck w i = by (slice_get w.seats i) refl
  where
    by : (seat : Option Seat) → slice_get w.seats i ≡ seat → roots_of true (turn_of luck w i seat) ≡ roots_of true w
    by None e = refl
    by (Some seat) e =
        let after = turned luck w.book seat.ledger seat.doing in
        let seat' = begun luck.start seat.ledger seat.doing in
        ap (λ s. roots_from s 0 (slice_set w.seats i after.seat))
        (one_opening w.book after.book (goes_books luck.step luck.room w.book seat'.ledger seat'.doing))
        ∙ roots_set w.book.opening 0 w.seats i seat after.seat e (turn_keeps_root luck w.book seat.ledger seat.doing)
