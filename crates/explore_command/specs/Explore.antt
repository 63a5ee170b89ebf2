-- What `inroot explore` writes: the text of what a search of all schedules of a script's world finds.
use Rattle.std.specs.Prelude.{◌≢◌, ℕ, Bool, List, Option, Result, MatchResult, IsOkAnd}
use Rattle.std.specs.Io.KnownBytes.{Keeps}
use Rattle.scripts.specs.declared.fault.RunFault.TheVariants.{WriteFailed}
use Rattle.scripts.specs.declared.fault.ScriptFault.{ScriptFault}
use Rattle.scripts.specs.Writing.{tree_of, IsNoRun, IsWritingFaultOf, Wrote}
use Rattle.scripts.specs.Scenario.{Said}
use Rattle.outcome_text.specs.declared.fault.ExploreFault.{ExploreFault}
use Rattle.outcome_text.specs.declared.fault.ExploreFault.TheVariants.{Run}
use Rattle.explore_parts.specs.declared.asked.Asked.{Asked}
use Rattle.explore_command.specs.Surveyed.{IsSurvey, WhyNoSurvey}

-- the text of the survey of what a script says, and whether no property fails
abbrev pub IsSurveyOf : Asked → Bool → Said → List ℕ → Type 0
IsSurveyOf asked holds said text = IsSurvey asked (tree_of said) said.plans said.lines holds text

-- why there is none for a script whose checks have passed
abbrev pub IsNoSurvey : Asked → Said → ExploreFault → Type 0
IsNoSurvey asked said (Run fault) = IsNoRun said fault
IsNoSurvey asked said other = WhyNoSurvey asked (tree_of said) said.plans said.lines other

-- a fault of the script, of making its world or of writing; or there is no survey
abbrev pub IsExploreFaultOf : Asked → Result Said ScriptFault → ExploreFault → Type 0
IsExploreFaultOf asked said (Run fault) =
    IsWritingFaultOf (λ s text. (holds : Bool) × IsSurveyOf asked holds s text) said fault
IsExploreFaultOf asked said other = IsOkAnd said (λ s. IsNoSurvey asked s other)

-- The text of all that is found was written, and nothing else, and the answer is whether no property fails; or it
-- failed as it should, and but for a writer that failed nothing was written.
abbrev pub IsExplore : Asked → Result Said ScriptFault → Option (List ℕ) → Option (List ℕ) → Result Bool ExploreFault
    → Type 0
IsExplore asked said old new result = MatchResult result
    (λ holds. Wrote (IsSurveyOf asked holds) said old new)
    (λ fault. IsExploreFaultOf asked said fault × (fault ≢ Run WriteFailed → Keeps old new))
