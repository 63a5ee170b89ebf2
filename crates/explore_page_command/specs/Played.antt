-- The outcomes of an exploration that a page plays, and their runs.
use Rattle.std.specs.Prelude.{⊤, ◌≡◌, ◌<◌, ◌&&◌, ℕ, nat_lt, List, [], ◌∷◌, ◌++◌, length, take, if◌then◌else◌, All}
use Rattle.drawings.specs.declared.picture.Closes.TheVariants.{Hidden}
use Rattle.drawings.specs.declared.picture.TheConstants.{ACTORS_MAX}
use Rattle.run_command.specs.declared.drawing.DrawFault.{DrawFault}
use Rattle.run_command.specs.declared.drawing.DrawFault.TheVariants.{Run, TooManyActors, TooManyLines}
use Rattle.run_command.specs.Drawing.{HasManyLines}
use Rattle.run_command.specs.Page.{run_played}
use Rattle.explore.specs.declared.worlds.scene.Scene.{Scene}
use Rattle.explore_page_command.specs.declared.chosen.TheConstants.{PLAYED_MAX}
use Rattle.outcome_text.specs.declared.survey.Told.{Told}
use Rattle.outcome_text.specs.Schedule.{without_tail}
use Rattle.outcome_text.specs.Survey.{is_new, new_ones}
use Rattle.pages.specs.declared.played.Played.{Played}
use Rattle.race_core.specs.declared.report.Outcome.{Outcome}
use Rattle.scripts.specs.Scenario.{Said, said_on}
use Rattle.scripts.specs.Writing.{IsNoRun}
use Rattle.tree_model.specs.declared.answer.Event.{Event}
use Rattle.tree_model.specs.State.{State}
use Rattle.run_command.specs.Replay.{IsRunOf}

-- the first of the outcomes that have a block in the text
abbrev pub chosen : List Told → List Told
chosen outcomes = take PLAYED_MAX (new_ones outcomes)

-- one more, where it looks like none of those before it, and there is room
abbrev pub with_chosen : List Told → List Told → Told → List Told
with_chosen some earlier told =
    if nat_lt (length some) PLAYED_MAX && is_new earlier told then some ++ told ∷ [] else some

-- ---- their runs

-- what a script says, with the schedule that is written with an outcome in place of its own
abbrev pub by_schedule_of : Said → Told → Said
by_schedule_of said told = record said { schedule = without_tail told.turns.items }

-- some run of what is said, as a page plays it: its report as JSON, and its picture without the closes
pub record IsPlayed (said : Said) (played : Played) : Type 0 where
  pub tree : State
  pub events : List Event
  pub replies : List (List Outcome)
  pub run : IsRunOf said tree events replies
  pub is : played ≡ run_played Hidden said tree events replies run

-- one for each of these outcomes, in their order, by its schedule
abbrev pub ArePlayed : Said → List Told → List Played → Type 0
ArePlayed said [] [] = ⊤
ArePlayed said (told ∷ others) (played ∷ runs) = IsPlayed (by_schedule_of said told) played × ArePlayed said others runs
ArePlayed said [] (played ∷ runs) = ⊥
ArePlayed said (told ∷ others) [] = ⊥

-- why one isn't played: a growth was refused, there are more actors than columns, or the run by some schedule has more
-- events or lines than a picture may have
abbrev pub IsNoPlay : Said → DrawFault → Type 0
IsNoPlay said (Run fault) = IsNoRun said fault
IsNoPlay said TooManyActors = ACTORS_MAX < length said.plans
IsNoPlay said TooManyLines = (schedule : List ℕ) × HasManyLines Hidden (record said { schedule = schedule })

-- ---- what the code goes by

-- what the script of a scene says, by whatever schedule
abbrev pub scene_said : Scene → Said
scene_said scene = said_on scene.tree scene.plans.items [] scene.lines

-- each turn of an outcome's schedule is one of so many actors'
abbrev pub AreTaken : ℕ → Told → Type 0
AreTaken actors told = All (λ actor. actor < actors) (without_tail told.turns.items)
