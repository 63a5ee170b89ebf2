-- The page of an exploration.
use Rattle.std.proofs.Common.{◌≡◌, ◌≢◌, ◌≤◌, ℕ, Bool, List, [], length, sym, subst}
use Rattle.std.specs.Prelude.{All, Option, Result, Ok, Err}
use Rattle.std.proofs.KnownBytes.{Keeps-refl}
use Rattle.explore_parts.specs.declared.asked.Asked.{Asked}
use Rattle.explore_command.specs.Explore.{IsSurveyOf}
use Rattle.explore_command.specs.Surveyed.{IsSurveyWith}
use Rattle.explore_page_command.specs.declared.fault.ExplorePageFault.{ExplorePageFault}
use Rattle.explore_page_command.specs.declared.fault.ExplorePageFault.TheVariants.{Explore, Draw}
use Rattle.explore_page_command.specs.ExplorePage.{IsExplorationPage, IsNoExplorationPage, IsExplorePageFaultOf, IsExplorePage}
use Rattle.explore_page_command.specs.Played.{AreTaken, ArePlayed, chosen}
use Rattle.explore_page_command.proofs.Plays.{by_any}
use Rattle.explore_page_command.proofs.Taken.{outcomes_taken}
use Rattle.outcome_text.specs.declared.fault.ExploreFault.TheVariants.{Run, NoSuchActor, NoSuchLine, Search, TooMuchMemory, NoGauge}
use Rattle.outcome_text.specs.declared.ranked.Survey.{Survey}
use Rattle.outcome_text.specs.declared.survey.Told.{Told}
use Rattle.outcome_text.specs.Framed.{text_of}
use Rattle.pages.specs.declared.played.Played.{Played}
use Rattle.pages.specs.Page.{page_of}
use Rattle.scripts.specs.declared.fault.RunFault.TheVariants as run
use Rattle.scripts.specs.declared.fault.ScriptFault.{ScriptFault}
use Rattle.scripts.specs.Scenario.{Said, said_on, IsPlayable}
use Rattle.scripts.specs.Writing.{tree_of}
use Rattle.scripts.proofs.Texts.{first_byte}
use Rattle.tree_model.specs.State.{State}

-- there is a text in it, which isn't empty
pub text_some : (asked : Asked) (holds : Bool) (said : Said) (page : List ℕ) → IsExplorationPage asked holds said page
    → (text : List ℕ) × ((answer : Bool) × IsSurveyOf asked answer said text) × (text ≢ [])
text_some asked holds said page is = (is.text, (holds, is.survey), first_byte is.text _ 115 is.survey.telling.is)

-- the survey of a tree that is the script's
in_said : (asked : Asked) (said : Said) (tree : State) (survey : Survey) → tree ≡ tree_of said → IsSurveyWith asked tree said.plans said.lines survey
    → IsSurveyWith asked (tree_of said) said.plans said.lines survey
in_said asked said tree survey same is = subst (λ (t : State). IsSurveyWith asked t said.plans said.lines survey) same is

pub survey_taken : (asked : Asked) (said : Said) (tree : State) (survey : Survey) → tree ≡ tree_of said → IsSurveyWith asked tree said.plans said.lines survey
    → IsPlayable said → length said.plans ≤ said.lines → All (AreTaken (length said.plans)) survey.outcomes.items
survey_taken asked said tree survey same is playable enough =
    let here = in_said asked said tree survey same is in
    subst (All (AreTaken (length said.plans))) (sym here.1) (outcomes_taken asked said survey.holds (text_of survey) here.0 playable enough)

pub is_page : (asked : Asked) (said : Said) (tree : State) (survey : Survey) (runs : List Played) (page : List ℕ) → tree ≡ tree_of said
    → IsSurveyWith asked tree said.plans said.lines survey → ArePlayed (said_on tree said.plans [] said.lines) (chosen survey.outcomes.items) runs
    → page ≡ page_of (text_of survey) runs → IsExplorationPage asked survey.holds said page
is_page asked said tree survey runs page same surveyed played is =
    let here = in_said asked said tree survey same surveyed in
    record {
      text = text_of survey;
      survey = here.0;
      runs = runs;
      played =
          subst (λ (os : List Told). ArePlayed said (chosen os) runs) here.1
          (by_any said [] (chosen survey.outcomes.items) runs
          (subst (λ (t : State). ArePlayed (said_on t said.plans [] said.lines) (chosen survey.outcomes.items) runs) same played));
      is = is;
    }

-- why there is none of what is said is why none is written
pub no_page : (asked : Asked) (said : Said) (fault : ExplorePageFault) → IsNoExplorationPage asked said fault → IsExplorePageFaultOf asked (Ok said) fault
no_page asked said (Explore (Run (run.Script cause))) why = absurd why
no_page asked said (Explore (Run run.ReadFailed)) why = absurd why
no_page asked said (Explore (Run run.WriteFailed)) why = absurd why
no_page asked said (Explore (Run run.NoMemory)) why = tt
no_page asked said (Explore (Run run.BookFull)) why = why
no_page asked said (Explore (NoSuchActor actor)) why = why
no_page asked said (Explore (NoSuchLine place)) why = why
no_page asked said (Explore (Search fault)) why = why
no_page asked said (Explore (TooMuchMemory most)) why = why
no_page asked said (Explore NoGauge) why = why
no_page asked said (Draw fault) why = why

-- the same of a script
pub not_written : (asked : Asked) (made : Result Said ScriptFault) (old : Option (List ℕ)) (said : Said) (fault : ExplorePageFault) → made ≡ Ok said
    → IsNoExplorationPage asked said fault → IsExplorePage asked made old old (Err fault)
not_written asked made old said fault is why =
    (subst (λ (s : Result Said ScriptFault). IsExplorePageFaultOf asked s fault) (sym is) (no_page asked said fault why), λ other. Keeps-refl old)
