-- Just one report of a world on a schedule tells of no want of memory: statements of laws.
use Rattle.std.specs.Prelude.{◌≡◌, ℕ, List, false}
use Rattle.tree_model.specs.declared.answer.Event.{Event}
use Rattle.tree_model.specs.State.{State}
use Rattle.handles.specs.Objects.{StandingObject}
use Rattle.race_core.specs.declared.report.Outcome.{Outcome}
use Rattle.race_core.specs.OneReport.{RanWithMemory, AreOne}
use Rattle.race_core.specs.Worlds.{WorldView, RunsTo}
use Rattle.local_states.specs.OutOfMemory.{replies_out_of_memory}

-- Two reports of a world on a schedule are the same, where no reply in them tells of a want.
abbrev pub ReportsWithoutOutOfMemoryAreOne : Type 0
ReportsWithoutOutOfMemoryAreOne = (w : WorldView) (schedule : List ℕ)
    (tree : State) (events : List Event) (replies : List (List Outcome)) (kept : List StandingObject)
    (tree' : State) (events' : List Event) (replies' : List (List Outcome)) (kept' : List StandingObject)
    → RunsTo w schedule tree events replies kept → RunsTo w schedule tree' events' replies' kept'
    → replies_out_of_memory replies ≡ false → replies_out_of_memory replies' ≡ false
    → AreOne tree events replies kept tree' events' replies' kept'

-- And such a report is the one that comes where memory never ran short.
abbrev pub ReportsWithoutOutOfMemoryHadMemory : Type 0
ReportsWithoutOutOfMemoryHadMemory = (w : WorldView) (schedule : List ℕ)
    (tree : State) (events : List Event) (replies : List (List Outcome)) (kept : List StandingObject)
    (tree' : State) (events' : List Event) (replies' : List (List Outcome)) (kept' : List StandingObject)
    (one : RunsTo w schedule tree events replies kept) (two : RunsTo w schedule tree' events' replies' kept')
    → RanWithMemory w schedule one.end one.runs → replies_out_of_memory replies' ≡ false
    → AreOne tree events replies kept tree' events' replies' kept'
