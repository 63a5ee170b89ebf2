-- Turns that were made one by one, and the run after them: statements of laws.
use Rattle.std.specs.Prelude.{◌≡◌, ℕ, List, [], ◌∷◌, ◌++◌, Ok}
use Rattle.tree_model.specs.declared.answer.Event.{Event}
use Rattle.tree_model.specs.State.{State}
use Rattle.handles.specs.Objects.{StandingObject}
use Rattle.race_core.specs.declared.report.Outcome.{Outcome}
use Rattle.race_core.specs.Worlds.{WorldView, Turns, RunsTo}

-- The turns of these actors were asked for one after another, and each was Ok. A turn of nobody's number changes
-- nothing, and stands in no such list.
abbrev pub TakesTurns : WorldView → List ℕ → WorldView → Type 0
TakesTurns w [] v = v ≡ w
TakesTurns w (i ∷ is) v = (u : WorldView) × Turns w i u (Ok tt) × TakesTurns u is v

-- one turn more
abbrev pub TurnsGoOn : Type 0
TurnsGoOn = (w u v : WorldView) (made : List ℕ) (i : ℕ) → TakesTurns w made u → Turns u i v (Ok tt)
    → TakesTurns w (made ++ i ∷ []) v

-- What is reported of a world after such turns is a report of the world before them: its schedule has these turns
-- first, and then the schedule that was given.
abbrev pub TurnsJoinRuns : Type 0
TurnsJoinRuns = (w v : WorldView) (made schedule : List ℕ) (tree : State) (events : List Event)
    (replies : List (List Outcome)) (kept : List StandingObject)
    → TakesTurns w made v → RunsTo v schedule tree events replies kept
    → RunsTo w (made ++ schedule) tree events replies kept
