-- Where memory never ran short there is just one report: statements of laws.
use Rattle.std.specs.Prelude.{◌≡◌, ℕ, List, [], ◌∷◌, length, true, false, None}
use Rattle.tree_model.specs.declared.answer.Event.{Event}
use Rattle.tree_model.specs.History.{IsLegal}
use Rattle.tree_model.specs.State.{State}
use Rattle.handles.specs.Objects.{StandingObject}
use Rattle.race_core.specs.declared.report.Outcome.{Outcome}
use Rattle.race_core.specs.Turns.{Luck}
use Rattle.race_core.specs.Worlds.{WorldView, turn, Runs, again, AllGoToEnd, numbers_below, RunsOut, RunsTo, first_beyond}

-- there was memory for all that a turn does
abbrev pub full : Luck
full = record { start = true; step = true; room = true }

-- so it was at each of these turns
abbrev pub HadMemory : (w : WorldView) (is : List ℕ) (v : WorldView) → Runs w is v → Type 0
HadMemory w [] v ran = Unit {0}
HadMemory w (i ∷ is) v ran = (ran.0 ≡ full) × HadMemory (turn ran.0 w i) is v ran.1

-- and at each turn of these actors to their ends
abbrev pub AllHadMemory : (w : WorldView) (is : List ℕ) (v : WorldView) → AllGoToEnd w is v → Type 0
AllHadMemory w [] v gone = Unit {0}
AllHadMemory w (i ∷ is) v gone = HadMemory w (again i gone.1.turns) gone.0 gone.1.run × AllHadMemory gone.0 is v gone.2

-- and at each turn of a whole run
pub record RanWithMemory (w : WorldView) (schedule : List ℕ) (v : WorldView)
    (out : RunsOut w schedule v) : Type 0 where
  pub scheduled : HadMemory w schedule out.middle out.scheduled
  pub rest : AllHadMemory out.middle (numbers_below (length w.seats)) v out.rest

-- two reports are the same
pub record AreOne (tree : State) (events : List Event) (replies : List (List Outcome)) (kept : List StandingObject)
    (tree' : State) (events' : List Event) (replies' : List (List Outcome))
    (kept' : List StandingObject) : Type 0 where
  pub same_tree : tree ≡ tree'
  pub same_events : events ≡ events'
  pub same_replies : replies ≡ replies'
  pub same_kept : kept ≡ kept'

-- What a world reports on a schedule where memory never ran short is always the same: the schedule settles each turn.
abbrev pub OneReport : Type 0
OneReport = (w : WorldView) (schedule : List ℕ)
    (tree : State) (events : List Event) (replies : List (List Outcome)) (kept : List StandingObject)
    (tree' : State) (events' : List Event) (replies' : List (List Outcome)) (kept' : List StandingObject)
    (one : RunsTo w schedule tree events replies kept) (two : RunsTo w schedule tree' events' replies' kept')
    → RanWithMemory w schedule one.end one.runs → RanWithMemory w schedule two.end two.runs
    → AreOne tree events replies kept tree' events' replies' kept'

-- a report of a world on a schedule where memory never ran short
pub record ReportWithMemory (w : WorldView) (schedule : List ℕ) : Type 0 where
  pub tree : State
  pub events : List Event
  pub replies : List (List Outcome)
  pub kept : List StandingObject
  pub run : RunsTo w schedule tree events replies kept
  pub had : RanWithMemory w schedule run.end run.runs

-- There is one, where the schedule names actors alone: each goes to its end. The world's history is legal until
-- then, and it had memory for its report.
abbrev pub ReportsAreThere : Type 0
ReportsAreThere = (w : WorldView) (schedule : List ℕ) → w.spent ≡ false → first_beyond (length w.seats) schedule ≡ None
    → IsLegal w.book.opening w.book.events → ReportWithMemory w schedule
