-- All schedules of a world: which lists of turns are whole, and which of them stand for all.
use Rattle.std.specs.Prelude.{◌≡◌, ℕ, List, Bool, true, false}
use Rattle.tree_model.specs.declared.answer.Event.{Event}
use Rattle.tree_model.specs.State.{State}
use Rattle.handles.specs.Objects.{StandingObject}
use Rattle.race_core.specs.declared.report.Outcome.{Outcome}
use Rattle.race_core.specs.Book.{tree_now}
use Rattle.race_core.specs.Worlds.{WorldView, ledgers_in, replies_in, RunsTo}
use Rattle.layered_search.specs.Moves as moves
use Rattle.layered_search.specs.Search as search
use Rattle.local_states.specs.Worlds.{after_turns, world_moves, worlds}
use Rattle.local_states.specs.Local.{TellAlike}
use Rattle.local_states.specs.OutOfMemory.{replies_out_of_memory}

-- nobody has anything left to do
abbrev pub IsOver : WorldView → Type 0
IsOver w = moves.IsOver world_moves w

-- A full list of turns: each is of an actor who has something left to do then, and after it nobody has.
abbrev pub IsFull : WorldView → List ℕ → Type 0
IsFull w is = moves.IsFull world_moves w is

-- Some lists are chosen: the empty one, and of each chosen list and each actor who has something left to do after
-- it, one that leads to a world like that after the actor's turn.
abbrev pub IsClosed : Bool → WorldView → (List ℕ → Bool) → Type 0
IsClosed told w = search.IsClosed (worlds told w)

-- ---- the laws

-- Whatever a full list of turns comes to is what some chosen list comes to, after which nobody has anything left to
-- do.
abbrev pub ChosenListsStandForAll : Type 0
ChosenListsStandForAll =
    (told : Bool) (w : WorldView) (chosen : List ℕ → Bool) → IsClosed told w chosen → (is : List ℕ) → IsFull w is
    → (js : List ℕ) × ((chosen js ≡ true)
    × (IsOver (after_turns w js) × TellAlike told (after_turns w is) (after_turns w js)))

-- The report on a run of any schedule, in which nobody lacked memory, is that of a full list.
abbrev pub ReportsAreOfFullLists : Type 0
ReportsAreOfFullLists = (w : WorldView) (schedule : List ℕ) (tree : State) (events : List Event)
    (replies : List (List Outcome)) (kept : List StandingObject)
    → RunsTo w schedule tree events replies kept → replies_out_of_memory replies ≡ false
    → (is : List ℕ) × (IsFull w is
    × ((tree ≡ tree_now (after_turns w is).book)
    × (replies ≡ replies_in (ledgers_in (after_turns w is).seats))))

-- And that on a run of a full list is the list's own.
abbrev pub FullListsAreReported : Type 0
FullListsAreReported = (w : WorldView) (is : List ℕ) (tree : State) (events : List Event)
    (replies : List (List Outcome)) (kept : List StandingObject)
    → IsFull w is → RunsTo w is tree events replies kept → replies_out_of_memory replies ≡ false
    → (tree ≡ tree_now (after_turns w is).book) × (replies ≡ replies_in (ledgers_in (after_turns w is).seats))
