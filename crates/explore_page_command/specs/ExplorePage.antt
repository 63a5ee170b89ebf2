-- What `inroot explore --html` writes: a page of the text that `inroot explore` writes, and of a run for each outcome
-- that it plays.
use Rattle.std.specs.Prelude.{⊤, ◌≡◌, ◌≢◌, ℕ, Bool, List, Option, Result, MatchResult, IsOkAnd}
use Rattle.std.specs.Io.KnownBytes.{Keeps}
use Rattle.explore_parts.specs.declared.asked.Asked.{Asked}
use Rattle.explore_command.specs.Explore.{IsNoSurvey, IsExploreFaultOf}
use Rattle.explore_command.specs.Gauge.{WhyTooMuch}
use Rattle.explore_command.specs.Surveyed.{IsSurvey, outcomes_of}
use Rattle.explore_page_command.specs.declared.fault.ExplorePageFault.{ExplorePageFault}
use Rattle.explore_page_command.specs.declared.fault.ExplorePageFault.TheVariants.{Explore, Draw}
use Rattle.explore_page_command.specs.Played.{chosen, ArePlayed, IsNoPlay}
use Rattle.outcome_text.specs.declared.fault.ExploreFault.TheVariants.{Run}
use Rattle.pages.specs.declared.played.Played.{Played}
use Rattle.pages.specs.Page.{page_of}
use Rattle.scripts.specs.declared.fault.RunFault.TheVariants.{WriteFailed}
use Rattle.scripts.specs.declared.fault.ScriptFault.{ScriptFault}
use Rattle.scripts.specs.Scenario.{Said}
use Rattle.scripts.specs.Writing.{tree_of, Wrote}

-- The page of the survey of what a script says: its very text, and the runs by the schedules of the outcomes that are
-- played, in the order of the text. And whether no property fails.
pub record IsExplorationPage (asked : Asked) (holds : Bool) (said : Said) (page : List ℕ) : Type 0 where
  pub text : List ℕ
  pub survey : IsSurvey asked (tree_of said) said.plans said.lines holds text
  pub runs : List Played
  pub played : ArePlayed said (chosen (outcomes_of survey)) runs
  pub is : page ≡ page_of text runs

-- why there is none for a script whose checks have passed: there is no survey, or a run isn't played
abbrev pub IsNoExplorationPage : Asked → Said → ExplorePageFault → Type 0
IsNoExplorationPage asked said (Explore fault) = IsNoSurvey asked said fault
IsNoExplorationPage asked said (Draw fault) = IsNoPlay said fault

-- what a gauge may say where the search took too much memory
abbrev pub WhyPageTookTooMuch : (Option ℕ → Type 0) → ExplorePageFault → Type 0
WhyPageTookTooMuch may_say (Explore fault) = WhyTooMuch may_say fault
WhyPageTookTooMuch may_say (Draw fault) = ⊤

-- a fault of exploring, or a run isn't played
abbrev pub IsExplorePageFaultOf : Asked → Result Said ScriptFault → ExplorePageFault → Type 0
IsExplorePageFaultOf asked said (Explore fault) = IsExploreFaultOf asked said fault
IsExplorePageFaultOf asked said (Draw fault) = IsOkAnd said (λ s. IsNoPlay s fault)

-- The page of all that is found was written, and nothing else, and the answer is whether no property fails; or it
-- failed as it should, and but for a writer that failed nothing was written.
abbrev pub IsExplorePage : Asked → Result Said ScriptFault → Option (List ℕ) → Option (List ℕ)
    → Result Bool ExplorePageFault → Type 0
IsExplorePage asked said old new result = MatchResult result
    (λ holds. Wrote (IsExplorationPage asked holds) said old new)
    (λ fault. IsExplorePageFaultOf asked said fault × (fault ≢ Explore (Run WriteFailed) → Keeps old new))
