-- A world: a tree that actors take turns on; its turns, and its runs to the end.
use Rattle.std.specs.Prelude.{◌≡◌, ◌≤◌, ◌<◌, ◌⊎◌, ℕ, zero, suc, List, [], ◌∷◌, ◌++◌, Bool, true, false, length, Option, Some, None, Result, Ok, Err, slice_get, slice_set, nat_lt, if◌then◌else◌}
use Rattle.tree_model.specs.declared.answer.Event.{Event}
use Rattle.tree_model.specs.State.{State}
use Rattle.tree_model.specs.History.{IsLegal}
use Rattle.handles.specs.Objects.{StandingObject}
use Rattle.root_ops.specs.declared.reply.Reply.{Reply}
use Rattle.race_core.specs.declared.report.Outcome.{Outcome}
use Rattle.race_core.specs.declared.report.WorldFault.{WorldFault}
use Rattle.race_core.specs.declared.report.WorldFault.TheVariants as fault
use Rattle.race_core.specs.Book.{BookedHistory, tree_now}
use Rattle.race_core.specs.Ledgers.{LedgerView}
use Rattle.race_core.specs.declared.seat.Seat.{Seat}
use Rattle.race_core.specs.Turns.{Luck, turned}
use Rattle.race_core.specs.TurnView.{is_busy, is_within, turns_left, taken_down}

-- the book, each actor's seat by its number, and whether memory for the report ran short
pub record WorldView : Type 0 where
  pub book : BookedHistory
  pub seats : List Seat
  pub spent : Bool

-- ---- turns

abbrev pub turn_of : Luck → WorldView → ℕ → Option Seat → WorldView
turn_of luck w i None = w
turn_of luck w i (Some seat) = record w {
  book = (turned luck w.book seat.ledger seat.doing).book;
  seats = slice_set w.seats i (turned luck w.book seat.ledger seat.doing).seat;
}

-- one turn of the actor of that number; another number is nobody's
abbrev pub turn : Luck → WorldView → ℕ → WorldView
turn luck w i = turn_of luck w i (slice_get w.seats i)

-- the world after these actors' turns, as luck has it
abbrev pub Runs : WorldView → List ℕ → WorldView → Type 0
Runs w [] v = v ≡ w
Runs w (i ∷ is) v = (luck : Luck) × Runs (turn luck w i) is v

-- the world after a turn, as luck has it; it had memory until then
pub record TakesTurn (w : WorldView) (i : ℕ) (v : WorldView) : Type 0 where
  pub had_memory : w.spent ≡ false
  pub luck : Luck
  pub is : v ≡ turn luck w i

-- the same of a book and its seats
pub record IsTurnAt (book : BookedHistory) (seats : List Seat) (i : ℕ) (book_after : BookedHistory)
    (after : List Seat) : Type 0 where
  pub luck : Luck
  pub is : (spent : Bool)
      → record { book = book_after; seats = after; spent = spent }
      ≡ turn luck (record { book = book; seats = seats; spent = spent }) i

-- ---- what is left to do

abbrev pub is_busy_in : Option Seat → Bool
is_busy_in None = false
is_busy_in (Some seat) = is_busy seat

abbrev pub is_busy_at : List Seat → ℕ → Bool
is_busy_at seats i = is_busy_in (slice_get seats i)

abbrev pub is_within_in : Option Seat → Bool
is_within_in None = false
is_within_in (Some seat) = is_within seat

-- whether the actor of that number has a call under way
abbrev pub is_within_at : List Seat → ℕ → Bool
is_within_at seats i = is_within_in (slice_get seats i)

abbrev pub turns_in : Option Seat → ℕ
turns_in None = 0
turns_in (Some seat) = turns_left seat

-- how many turns the actor of that number has left at most
abbrev pub turns_at : List Seat → ℕ → ℕ
turns_at seats i = turns_in (slice_get seats i)

-- where it had something left to do, it has less
abbrev pub Lowers : List Seat → ℕ → List Seat → Type 0
Lowers old i new = is_busy_at old i ≡ true → turns_at new i < turns_at old i

-- the first of these numbers that is none of so many actors'
abbrev pub first_beyond : ℕ → List ℕ → Option ℕ
first_beyond actors [] = None
first_beyond actors (i ∷ is) = if nat_lt i actors then first_beyond actors is else Some i

-- ---- a turn that there was no room to take down

-- what a call came to is taken down at that place, where somebody sits
abbrev pub taken_down_at : List Seat → ℕ → Reply → Option Seat → List Seat
taken_down_at seats i reply None = seats
taken_down_at seats i reply (Some seat) =
    slice_set seats i (record { ledger = taken_down seat.ledger reply; doing = None })

-- The book and its seats after a turn, as luck has it, but that there was no room to take down the end of the
-- actor's call: with this reply taken down they are so.
pub record IsCutTurnAt (book : BookedHistory) (seats : List Seat) (i : ℕ) (book_after : BookedHistory)
    (after : List Seat) : Type 0 where
  pub luck : Luck
  pub reply : Reply
  pub idle : is_within_at after i ≡ false
  pub is : (spent : Bool)
      → record { book = book_after; seats = taken_down_at after i reply (slice_get after i); spent = spent }
      ≡ turn luck (record { book = book; seats = seats; spent = spent }) i

-- The same of a world, which had memory until then and has none for its report from now on.
pub record IsCutShort (w : WorldView) (i : ℕ) (v : WorldView) : Type 0 where
  pub had_memory : w.spent ≡ false
  pub spent : v.spent ≡ true
  pub luck : Luck
  pub reply : Reply
  pub idle : is_within_at v.seats i ≡ false
  pub is : record v { seats = taken_down_at v.seats i reply (slice_get v.seats i); spent = false } ≡ turn luck w i

-- Memory for the report ran short: before, and then nothing changes any more; or at this turn, which was made.
abbrev pub LacksRoom : WorldView → ℕ → WorldView → Type 0
LacksRoom w i v = ((w.spent ≡ true) × (v ≡ w)) ⊎ IsCutShort w i v

-- ---- runs to the end

abbrev pub again : ℕ → ℕ → List ℕ
again i zero = []
again i (suc k) = i ∷ again i k

-- the actor alone goes to its end
pub record GoesToEnd (w : WorldView) (i : ℕ) (v : WorldView) : Type 0 where
  pub turns : ℕ
  pub run : Runs w (again i turns) v
  pub over : is_busy_at v.seats i ≡ false

-- these actors, one after another, each go to their end
abbrev pub AllGoToEnd : WorldView → List ℕ → WorldView → Type 0
AllGoToEnd w [] v = v ≡ w
AllGoToEnd w (i ∷ is) v = (u : WorldView) × GoesToEnd w i u × AllGoToEnd u is v

abbrev pub numbers_below : ℕ → List ℕ
numbers_below zero = []
numbers_below (suc n) = numbers_below n ++ n ∷ []

-- the turns of the schedule, and then the actors in the order of their numbers, each to its end
pub record RunsOut (w : WorldView) (schedule : List ℕ) (v : WorldView) : Type 0 where
  pub middle : WorldView
  pub scheduled : Runs w schedule middle
  pub rest : AllGoToEnd middle (numbers_below (length w.seats)) v

-- ---- what a report tells

-- nobody has anything left to do
abbrev pub AllOver : List Seat → Type 0
AllOver [] = Unit {0}
AllOver (seat ∷ seats) = (is_busy seat ≡ false) × AllOver seats

abbrev pub ledgers_in : List Seat → List LedgerView
ledgers_in [] = []
ledgers_in (seat ∷ seats) = seat.ledger ∷ ledgers_in seats

abbrev pub replies_in : List LedgerView → List (List Outcome)
replies_in [] = []
replies_in (ledger ∷ ledgers) = ledger.outcomes ∷ replies_in ledgers

-- what was another owner's to release, of all actors in their order
abbrev pub kept_in : List LedgerView → List StandingObject
kept_in [] = []
kept_in (ledger ∷ ledgers) = ledger.kept ++ kept_in ledgers

-- a report on this book and these ledgers: the tree, the events, the replies and what was kept
pub record Reports (book : BookedHistory) (ledgers : List LedgerView) (tree : State) (events : List Event)
    (replies : List (List Outcome)) (kept : List StandingObject) : Type 0 where
  pub is_tree : tree ≡ tree_now book
  pub are_events : events ≡ book.events
  pub legal : IsLegal book.opening book.events
  pub are_replies : replies ≡ replies_in ledgers
  pub is_kept : kept ≡ kept_in ledgers

-- the world ran so, and this is the report on its end
pub record RunsTo (w : WorldView) (schedule : List ℕ) (tree : State) (events : List Event)
    (replies : List (List Outcome)) (kept : List StandingObject) : Type 0 where
  pub had_memory : w.spent ≡ false
  pub within : first_beyond (length w.seats) schedule ≡ None
  pub end : WorldView
  pub runs : RunsOut w schedule end
  pub over : AllOver end.seats
  pub reports : Reports end.book (ledgers_in end.seats) tree events replies kept

-- why a world doesn't run: the first number of the schedule that is no actor's, and else want of memory
abbrev pub RefusesRun : WorldView → List ℕ → WorldFault → Type 0
RefusesRun w schedule (fault.NoSuchActor actor) = first_beyond (length w.seats) schedule ≡ Some actor
RefusesRun w schedule fault.NoMemory = first_beyond (length w.seats) schedule ≡ None
RefusesRun w schedule fault.TooManyActors = ⊥
RefusesRun w schedule (fault.RootNotFound at) = ⊥
RefusesRun w schedule (fault.RootNotDir at) = ⊥
RefusesRun w schedule (fault.TooMany at) = ⊥
RefusesRun w schedule fault.Invalid = ⊥
RefusesRun w schedule fault.BookFull = ⊥

-- What a turn comes to: a number that is no actor's changes nothing. Where memory for the report runs short the turn
-- is made, but the end of the actor's call isn't taken down; it is short for good then, and nothing changes any
-- more.
abbrev pub Turns : WorldView → ℕ → WorldView → Result (Unit {0}) WorldFault → Type 0
Turns old i new (Ok done) = (i < length old.seats) × TakesTurn old i new
Turns old i new (Err (fault.NoSuchActor actor)) = (actor ≡ i) × (length old.seats ≤ i) × (new ≡ old)
Turns old i new (Err fault.NoMemory) = (i < length old.seats) × LacksRoom old i new
Turns old i new (Err fault.TooManyActors) = ⊥
Turns old i new (Err (fault.RootNotFound at)) = ⊥
Turns old i new (Err (fault.RootNotDir at)) = ⊥
Turns old i new (Err (fault.TooMany at)) = ⊥
Turns old i new (Err fault.Invalid) = ⊥
Turns old i new (Err fault.BookFull) = ⊥
