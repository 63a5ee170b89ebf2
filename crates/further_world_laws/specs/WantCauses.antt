-- A call tells of a want of memory only where there was one: statements of laws.
use Rattle.std.specs.Prelude.{◌≡◌, ◌≢◌, ◌⊎◌, ℕ, List, [], ◌∷◌, ◌++◌, true, false, Some, slice_get}
use Rattle.tree_model.specs.declared.answer.Event.{Event}
use Rattle.tree_model.specs.State.{State}
use Rattle.handles.specs.Objects.{StandingObject}
use Rattle.race_core.specs.declared.report.Outcome.{Outcome}
use Rattle.race_core.specs.declared.seat.Seat.{Seat}
use Rattle.race_core.specs.Book.{BookedHistory}
use Rattle.race_core.specs.OneReport.{full, RanWithMemory}
use Rattle.race_core.specs.Turns.{turned}
use Rattle.race_core.specs.Worlds.{WorldView, turn, Runs, RunsTo}
use Rattle.local_states.specs.OutOfMemory.{any_out_of_memory, call_out_of_memory, seat_out_of_memory, seats_out_of_memory, replies_out_of_memory}

-- What a turn adds to its actor's outcomes tells of no want of memory, nor is the call under way about to.
pub record BringsNoWant (old new : Seat) : Type 0 where
  pub news : List Outcome
  pub told : new.ledger.outcomes ≡ old.ledger.outcomes ++ news
  pub none : any_out_of_memory news ≡ false
  pub under_way : call_out_of_memory new.doing ≡ false

-- A turn with memory for all that it does brings no want. So where a call comes to tell ENOMEM, a turn of it lacked
-- memory.
abbrev pub MemoryBringsNoWant : Type 0
MemoryBringsNoWant = (book : BookedHistory) (seat : Seat) → call_out_of_memory seat.doing ≡ false
    → BringsNoWant seat (turned full book seat.ledger seat.doing).seat

-- one of that actor's turns lacked memory
abbrev pub LackedMemory : (i : ℕ) (w : WorldView) (is : List ℕ) (v : WorldView) → Runs w is v → Type 0
LackedMemory i w [] v ran = ⊥
LackedMemory i w (j ∷ is) v ran = ((j ≡ i) × (ran.0 ≢ full)) ⊎ LackedMemory i (turn ran.0 w j) is v ran.1

-- An actor that tells of a want after some turns, or is about to, and didn't before them, lacked memory at one of its
-- own.
abbrev pub WantHasATurn : Type 0
WantHasATurn = (is : List ℕ) (w v : WorldView) (ran : Runs w is v) (i : ℕ) (old new : Seat)
    → slice_get w.seats i ≡ Some old → slice_get v.seats i ≡ Some new
    → seat_out_of_memory old ≡ false → seat_out_of_memory new ≡ true → LackedMemory i w is v ran

-- Where memory never ran short, a report tells of no want, if the world told of none before.
abbrev pub ReportsWithMemoryTellNone : Type 0
ReportsWithMemoryTellNone = (w : WorldView) (schedule : List ℕ)
    (tree : State) (events : List Event) (replies : List (List Outcome)) (kept : List StandingObject)
    (ran : RunsTo w schedule tree events replies kept)
    → seats_out_of_memory w.seats ≡ false → RanWithMemory w schedule ran.end ran.runs
    → replies_out_of_memory replies ≡ false
