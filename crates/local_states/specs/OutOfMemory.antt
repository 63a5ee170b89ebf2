-- A call that once found no memory comes to tell of it: what it does from then on.
use Rattle.std.specs.Prelude.{◌≡◌, ◌⊎◌, ℕ, List, [], ◌∷◌, Bool, true, false, ◌||◌, Option, Some, None}
use Rattle.path_text.specs.declared.errno.Errno.{Errno}
use Rattle.path_text.specs.declared.errno.Errno.TheVariants.{NoMemory}
use Rattle.step_resolver.specs.Order.{Walking, Turn}
use Rattle.step_resolver.specs.Order as walk
use Rattle.bulk_ops.specs.MakeAllOrder as make
use Rattle.bulk_ops.specs.RemoveAllOrder as remove
use Rattle.root_ops.specs.Order.{Reply, Doing, CallTurn}
use Rattle.root_ops.specs.Order as call
use Rattle.root_ops.specs.View.{CallView}
use Rattle.race_core.specs.declared.report.Outcome.{Outcome}
use Rattle.race_core.specs.declared.report.Outcome.TheVariants as outcomes
use Rattle.race_core.specs.declared.seat.Seat.{Seat}
use Rattle.race_core.specs.Book.{BookedHistory}
use Rattle.race_core.specs.Turns.{Luck, turned}
use Rattle.race_core.specs.Worlds.{WorldView, ledgers_in, replies_in, AllOver, Runs}
use Rattle.local_states.specs.Worlds.{full, after_turns}

abbrev pub is_out_of_memory : Errno → Bool
is_out_of_memory NoMemory = true
is_out_of_memory error = false

-- ---- a call on its way to tell that there was no memory: it closes what it holds

abbrev pub walk_out_of_memory : Walking → Bool
walk_out_of_memory (walk.opening position own follow n rest) = false
walk_out_of_memory (walk.reading position link rest) = false
walk_out_of_memory (walk.rising handle names rest) = false
walk_out_of_memory (walk.judging handle names rest) = false
walk_out_of_memory (walk.duping rest) = false
walk_out_of_memory (walk.ending handle names rest) = false
walk_out_of_memory (walk.closing h hs (walk.gives error)) = is_out_of_memory error
walk_out_of_memory (walk.closing h hs (walk.onward position rest)) = false
walk_out_of_memory (walk.closing h hs (walk.judges handle names rest)) = false

abbrev pub walk_turn_out_of_memory : Turn → Bool
walk_turn_out_of_memory (walk.more w) = walk_out_of_memory w
walk_turn_out_of_memory (walk.found handle names) = false
walk_turn_out_of_memory (walk.partial handle names rest) = false
walk_turn_out_of_memory (walk.failed error) = is_out_of_memory error

abbrev pub making_out_of_memory : make.Making → Bool
making_out_of_memory (make.walking w) = walk_out_of_memory w
making_out_of_memory (make.making held names n left) = false
making_out_of_memory (make.opening held names n left) = false
making_out_of_memory (make.leaving old new names left) = false
making_out_of_memory (make.ending held names) = false
making_out_of_memory (make.closing h hs error) = is_out_of_memory error

abbrev pub make_turn_out_of_memory : make.MakeTurn → Bool
make_turn_out_of_memory (make.more bulk) = making_out_of_memory bulk
make_turn_out_of_memory (make.made handle names) = false
make_turn_out_of_memory (make.failed error) = is_out_of_memory error

abbrev pub removing_out_of_memory : remove.Removing → Bool
removing_out_of_memory (remove.walking way target w) = walk_out_of_memory w
removing_out_of_memory (remove.clearing stage level above count left) = false
removing_out_of_memory (remove.closing h hs (remove.fails error)) = is_out_of_memory error
removing_out_of_memory (remove.closing h hs (remove.removes count)) = false

abbrev pub remove_turn_out_of_memory : remove.Turn → Bool
remove_turn_out_of_memory (remove.more bulk) = removing_out_of_memory bulk
remove_turn_out_of_memory (remove.removed count) = false
remove_turn_out_of_memory (remove.failed error) = is_out_of_memory error

abbrev pub reply_out_of_memory : Reply → Bool
reply_out_of_memory (call.opened handle names) = false
reply_out_of_memory (call.link_text text) = false
reply_out_of_memory call.done = false
reply_out_of_memory (call.count n) = false
reply_out_of_memory (call.stepped answer) = false
reply_out_of_memory (call.kept standing) = false
reply_out_of_memory (call.fault error) = is_out_of_memory error

abbrev pub doing_out_of_memory : Doing → Bool
doing_out_of_memory (call.walking w aim) = walk_out_of_memory w
doing_out_of_memory (call.acting wanted step hs) = false
doing_out_of_memory (call.checking old new renaming) = false
doing_out_of_memory (call.closing h hs (call.gives reply)) = reply_out_of_memory reply
doing_out_of_memory (call.closing h hs (call.acts wanted step held)) = false
doing_out_of_memory (call.making bulk) = making_out_of_memory bulk
doing_out_of_memory (call.removing bulk) = removing_out_of_memory bulk
doing_out_of_memory (call.releasing h) = false

abbrev pub turn_out_of_memory : CallTurn → Bool
turn_out_of_memory (call.more doing) = doing_out_of_memory doing
turn_out_of_memory (call.ends reply) = reply_out_of_memory reply

-- ---- an actor that tells so, or is on the way

abbrev pub outcome_out_of_memory : Outcome → Bool
outcome_out_of_memory (outcomes.Opened x kind names) = false
outcome_out_of_memory (outcomes.Text text) = false
outcome_out_of_memory outcomes.Done = false
outcome_out_of_memory (outcomes.Count n) = false
outcome_out_of_memory (outcomes.Stepped answer) = false
outcome_out_of_memory (outcomes.Fault error) = is_out_of_memory error

abbrev pub any_out_of_memory : List Outcome → Bool
any_out_of_memory [] = false
any_out_of_memory (outcome ∷ others) = outcome_out_of_memory outcome || any_out_of_memory others

abbrev pub call_out_of_memory : Option CallView → Bool
call_out_of_memory None = false
call_out_of_memory (Some view) = doing_out_of_memory view.doing

abbrev pub seat_out_of_memory : Seat → Bool
seat_out_of_memory seat = any_out_of_memory seat.ledger.outcomes || call_out_of_memory seat.doing

abbrev pub seats_out_of_memory : List Seat → Bool
seats_out_of_memory [] = false
seats_out_of_memory (seat ∷ seats) = seat_out_of_memory seat || seats_out_of_memory seats

abbrev pub replies_out_of_memory : List (List Outcome) → Bool
replies_out_of_memory [] = false
replies_out_of_memory (replies ∷ others) = any_out_of_memory replies || replies_out_of_memory others

-- ---- a world that comes to an end at which nobody tells of it

pub record EndsWell (u : WorldView) : Type 0 where
  pub turns : List ℕ
  pub end : WorldView
  pub run : Runs u turns end
  pub over : AllOver end.seats
  pub none : replies_out_of_memory (replies_in (ledgers_in end.seats)) ≡ false

-- ---- the laws

-- A turn without memory is the turn with memory, or leaves an actor that tells of it in the end.
abbrev pub OutOfMemoryIsTold : Type 0
OutOfMemoryIsTold = (luck : Luck) (book : BookedHistory) (seat : Seat)
    → (turned luck book seat.ledger seat.doing ≡ turned full book seat.ledger seat.doing)
    ⊎ (seat_out_of_memory (turned luck book seat.ledger seat.doing).seat ≡ true)

-- And it does so whatever comes.
abbrev pub OutOfMemoryStays : Type 0
OutOfMemoryStays = (luck : Luck) (book : BookedHistory) (seat : Seat) → seat_out_of_memory seat ≡ true
    → seat_out_of_memory (turned luck book seat.ledger seat.doing).seat ≡ true

-- So a run to the end in which nobody tells of it had memory for all.
abbrev pub RunsWithoutOutOfMemoryAreFull : Type 0
RunsWithoutOutOfMemoryAreFull = (w v : WorldView) (is : List ℕ) → Runs w is v → AllOver v.seats
    → replies_out_of_memory (replies_in (ledgers_in v.seats)) ≡ false → v ≡ after_turns w is
