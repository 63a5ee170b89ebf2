-- What is played of a scene, and why one isn't.
use Rattle.std.proofs.Common.{◌≡◌, ◌≢◌, ◌<◌, ℕ, List, [], ◌∷◌, ◌++◌, length, ◌∙◌}
use Rattle.std.specs.Prelude.{All, Some}
use Rattle.drawings.specs.declared.picture.Closes.TheVariants.{Hidden}
use Rattle.drawings.specs.declared.picture.PictureFault.{PictureFault}
use Rattle.drawings.specs.declared.picture.PictureFault.TheVariants as picture_fault
use Rattle.drawings.specs.Calls.{calls_of}
use Rattle.drawings.specs.Picture.{drawn_of, IsPictureFault}
use Rattle.run_command.specs.declared.drawing.DrawFault.{DrawFault}
use Rattle.run_command.specs.declared.drawing.DrawFault.TheVariants.{Run, TooManyActors, TooManyLines}
use Rattle.run_command.specs.Drawing.{opened_by, told_of, IsNoDrawing}
use Rattle.run_command.proofs.Drawings.{opening, is_no_drawing}
use Rattle.run_command.proofs.Pages.{played_so}
use Rattle.explore_page_command.specs.Played.{ArePlayed, IsPlayed, IsNoPlay, by_schedule_of}
use Rattle.outcome_text.specs.declared.survey.Told.{Told}
use Rattle.pages.specs.declared.played.Played.{Played}
use Rattle.pages.specs.Page.{played_of}
use Rattle.race_core.specs.declared.report.Outcome.{Outcome}
use Rattle.race_core.specs.Opening.{granted}
use Rattle.scripts.specs.Scenario.{Said, IsPlayable}
use Rattle.scripts.specs.Writing.{tree_of}
use Rattle.tree_model.specs.declared.answer.Event.{Event}
use Rattle.tree_model.specs.State.{State}
use Rattle.run_command.specs.Replay.{IsRunOf}

-- ---- one

-- what is said can be played by another schedule, too, whose turns are the actors'
pub playable_by : (said : Said) (schedule : List ℕ) → IsPlayable said → All (λ i. i < length said.plans) schedule
    → IsPlayable (record said { schedule = schedule })
playable_by said schedule playable turns =
    record {
      some = playable.some;
      few = playable.few;
      roots = playable.roots;
      turns = turns;
      bounded = playable.bounded;
    }

pub is_played : (said : Said) (t tree : State) (calls : List (List (List ℕ))) (events : List Event)
    (replies : List (List Outcome)) (played : Played)
    → IsRunOf said tree events replies → opened_by (granted (tree_of said) 0 said.plans) ≡ Some t
    → calls ≡ calls_of said.plans
    → played ≡ played_of Hidden t calls events replies → IsPlayed said played
is_played said t tree calls events replies played run opened are is =
    record {
      tree = tree;
      events = events;
      replies = replies;
      run = run;
      is =
          is ∙ played_so Hidden said t tree calls events replies
          (run, opening said t tree events replies run opened) are;
    }

-- a run that has no picture has none by its schedule
no_play : (said : Said) (schedule : List ℕ) (fault : DrawFault)
    → IsNoDrawing Hidden (record said { schedule = schedule }) fault → IsNoPlay said fault
no_play said schedule (Run fault) why = why
no_play said schedule TooManyActors why = why
no_play said schedule TooManyLines why = (schedule, why)

pub is_no_play : (said : Said) (schedule : List ℕ) (t tree : State) (calls : List (List (List ℕ))) (events : List Event)
    (replies : List (List Outcome)) (fault : PictureFault) (told : DrawFault)
    → IsPlayable (record said { schedule = schedule })
    → IsRunOf (record said { schedule = schedule }) tree events replies
    → opened_by (granted (tree_of said) 0 said.plans) ≡ Some t → calls ≡ calls_of said.plans
    → (fault ≢ picture_fault.NoMemory → IsPictureFault events (drawn_of Hidden t calls events replies) fault)
    → told ≡ told_of fault → IsNoPlay said told
is_no_play said schedule t tree calls events replies fault told playable run opened are why is =
    let shown : Said = record said { schedule = schedule } in
    no_play said schedule told
    (is_no_drawing Hidden shown t tree calls events replies told playable
    (run, opening shown t tree events replies run opened) are (fault, (is, why)))

-- ---- one more

pub one_played : (said : Said) (some : List Told) (runs : List Played) (told : Told) (played : Played)
    → ArePlayed said some runs → IsPlayed (by_schedule_of said told) played
    → ArePlayed said (some ++ told ∷ []) (runs ++ played ∷ [])
one_played said [] [] told played are is = (is, tt)
one_played said (t ∷ some) (p ∷ runs) told played are is = (are.0, one_played said some runs told played are.1 is)
one_played said [] (p ∷ runs) told played are is = absurd are
one_played said (t ∷ some) [] told played are is = absurd are

-- ---- of what is said by any schedule

pub by_any : (said : Said) (schedule : List ℕ) (some : List Told) (runs : List Played)
    → ArePlayed (record said { schedule = schedule }) some runs → ArePlayed said some runs
by_any said schedule [] [] are = tt
by_any said schedule (told ∷ some) (played ∷ runs) are = (are.0, by_any said schedule some runs are.1)
by_any said schedule [] (played ∷ runs) are = absurd are
by_any said schedule (told ∷ some) [] are = absurd are
