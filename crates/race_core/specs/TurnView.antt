-- What the code's values come to, in the words of `Turns`.
use Rattle.std.specs.Prelude.{◌≡◌, ℕ, ◌+◌, ◌<◌, ◌≤◌, suc, ◌||◌, ◌⊎◌, is_some, List, [], ◌∷◌, ◌++◌, Bool, true, false, Option, Some, None}
use Rattle.root_ops.specs.declared.call.CallTurn.{CallTurn as Outcome}
use Rattle.root_ops.specs.declared.call.CallTurn.TheVariants as outcome
use Rattle.handles.specs.Objects.{StandingObject}
use Rattle.root_ops.specs.declared.reply.Reply.{Reply}
use Rattle.root_ops.specs.declared.reply.Reply.TheVariants as reply
use Rattle.root_ops.specs.declared.op.Request.{Request}
use Rattle.root_ops.specs.Order.{steps_left}
use Rattle.root_ops.specs.TurnView.{STEPS_MAX, steps_to_come}
use Rattle.root_ops.specs.View.{CallView, reply_view}
use Rattle.step_resolver.specs.declared.walk.Root.{Root}
use Rattle.race_core.specs.declared.plan.Planned.{Planned}
use Rattle.race_core.specs.Book.{BookedHistory}
use Rattle.race_core.specs.Ledgers.{LedgerView}
use Rattle.race_core.specs.declared.seat.Seat.{Seat}
use Rattle.race_core.specs.Turns.{Luck, outcome_of, kept_by, begins, begins_next, begun, goes_on, turned}

-- ---- how many turns are to come at most

-- that a call's turn leaves
abbrev pub steps_then : Outcome → ℕ
steps_then (outcome.More call) = suc (steps_left call.below call.doing)
steps_then (outcome.Done reply) = 0

abbrev pub steps_of : Option CallView → ℕ
steps_of None = 0
steps_of (Some call) = suc (steps_left call.below call.doing)

abbrev pub turns_of : List Planned → ℕ
turns_of [] = 0
turns_of (next ∷ others) = suc (suc STEPS_MAX) + turns_of others

abbrev pub turns_left : Seat → ℕ
turns_left seat = steps_of seat.doing + turns_of seat.ledger.to_come

abbrev pub are_some : List Planned → Bool
are_some [] = false
are_some (next ∷ others) = true

-- ---- turns

-- what a reply opened
abbrev pub standing_in : Reply → Option StandingObject
standing_in (reply.Opened standing) = Some standing
standing_in (reply.Text text) = None
standing_in reply.Done = None
standing_in (reply.Count n) = None
standing_in (reply.Stepped answer) = None
standing_in (reply.Kept standing) = None
standing_in (reply.Fault error) = None

-- the ledger once that call's end is taken down
abbrev pub taken_down : LedgerView → Reply → LedgerView
taken_down ledger reply = record ledger {
  outcomes = ledger.outcomes ++ outcome_of (reply_view reply) ∷ [];
  standings = ledger.standings ++ standing_in reply ∷ [];
  kept = ledger.kept ++ kept_by (reply_view reply);
}

-- the seat once its call came to this turn
abbrev pub seat_at : LedgerView → Outcome → Seat
seat_at ledger (outcome.More call) = record { ledger = ledger; doing = Some call }
seat_at ledger (outcome.Done reply) = record { ledger = taken_down ledger reply; doing = None }

-- The seat as it should be, but that there was no room to take down the end of its call: with this reply taken down
-- it is so.
pub record LacksEnd (whole new : Seat) : Type 0 where
  pub reply : Reply
  pub idle : new.doing ≡ None
  pub is : whole ≡ record { ledger = taken_down new.ledger reply; doing = None }

-- a call that asks this was begun, with memory or without; or what it names isn't held
pub record IsStarted (root : Root) (request : Option Request) (turn : Outcome) : Type 0 where
  pub room : Bool
  pub is : (ledger : LedgerView) → ledger.root ≡ root → seat_at ledger turn ≡ begins room ledger request
  pub few : steps_to_come turn ≤ STEPS_MAX

-- the next call was begun, with memory or without
pub record IsBegun (old new : LedgerView) (turn : Outcome) : Type 0 where
  pub room : Bool
  pub is : seat_at new turn ≡ begins_next room old old.to_come
  pub few : steps_to_come turn ≤ STEPS_MAX
  pub fewer : steps_then turn + turns_of new.to_come < turns_of old.to_come

-- the next call was begun, or none is to come
abbrev pub Begins : LedgerView → LedgerView → Option Outcome → Type 0
Begins old new None = (old.to_come ≡ []) × (new ≡ old)
Begins old new (Some turn) = IsBegun old new turn

-- ---- an actor's turn

-- a call is under way or to come
abbrev pub is_busy : Seat → Bool
is_busy seat = is_some seat.doing || are_some seat.ledger.to_come

-- a call is under way
abbrev pub is_within : Seat → Bool
is_within seat = is_some seat.doing

-- the next call was begun where none was under way, with memory or without; then fewer turns are left
pub record Starts (old new : Seat) : Type 0 where
  pub room : Bool
  pub is : new ≡ begun room old.ledger old.doing
  pub fewer : (turns_left new < turns_left old) ⊎ ((new ≡ old) × (is_busy old ≡ is_some old.doing))

-- the due step of the call under way was made, as luck has it; then fewer turns are left
pub record GoesOn (book : BookedHistory) (old : Seat) (book_after : BookedHistory) (new : Seat) : Type 0 where
  pub luck : Bool
  pub room : Bool
  pub booked : book_after ≡ (goes_on luck room book old.ledger old.doing).book
  pub seated : new ≡ (goes_on luck room book old.ledger old.doing).seat
  pub fewer : (turns_left new < turns_left old) ⊎ ((old.doing ≡ None) × (new ≡ old))

-- the book and the seat are those after a turn, as luck has it
pub record IsTurned (book : BookedHistory) (old : Seat) (book_after : BookedHistory) (new : Seat) : Type 0 where
  pub luck : Luck
  pub booked : book_after ≡ (turned luck book old.ledger old.doing).book
  pub seated : new ≡ (turned luck book old.ledger old.doing).seat

-- where something was left to do, less is
abbrev pub Lowers : Seat → Seat → Type 0
Lowers old new = is_busy old ≡ true → turns_left new < turns_left old

-- ---- a turn that there was no room to take down

-- the next call was begun, and its end at once isn't taken down
pub record IsCutAtStart (old new : Seat) : Type 0 where
  pub room : Bool
  pub lacks : LacksEnd (begun room old.ledger old.doing) new

-- the due step was made, as luck has it, and the call's end isn't taken down
pub record IsCutGoingOn (book : BookedHistory) (old : Seat) (book_after : BookedHistory) (new : Seat) : Type 0 where
  pub luck : Bool
  pub room : Bool
  pub booked : book_after ≡ (goes_on luck room book old.ledger old.doing).book
  pub lacks : LacksEnd (goes_on luck room book old.ledger old.doing).seat new

-- the book and the seat are those after a turn, as luck has it, but that the call's end isn't taken down
pub record IsCutShort (book : BookedHistory) (old : Seat) (book_after : BookedHistory) (new : Seat) : Type 0 where
  pub luck : Luck
  pub booked : book_after ≡ (turned luck book old.ledger old.doing).book
  pub lacks : LacksEnd (turned luck book old.ledger old.doing).seat new
