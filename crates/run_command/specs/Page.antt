-- What `inroot replay --json` and `inroot draw --html` write: a report on a run of the world that the script says as
-- JSON, and a page of it.
use Rattle.std.specs.Prelude.{◌≡◌, ◌≢◌, ◌<◌, ℕ, List, [], ◌∷◌, length, Option, Result, MatchResult, IsOkAnd}
use Rattle.std.specs.Io.KnownBytes.{Keeps}
use Rattle.drawings.specs.declared.picture.Closes.{Closes}
use Rattle.drawings.specs.declared.picture.TheConstants.{ACTORS_MAX}
use Rattle.pages.specs.Page.{page_of}
use Rattle.pages.specs.Run.{report_json}
use Rattle.pages.specs.declared.played.Played.{Played}
use Rattle.race_core.specs.declared.report.Outcome.{Outcome}
use Rattle.report_text.specs.Report.{report_text}
use Rattle.tree_model.specs.declared.answer.Event.{Event}
use Rattle.tree_model.specs.State.{State}
use Rattle.run_command.specs.declared.drawing.DrawFault.{DrawFault}
use Rattle.run_command.specs.declared.drawing.DrawFault.TheVariants.{Run, TooManyActors, TooManyLines}
use Rattle.run_command.specs.declared.page.JsonFault.{JsonFault}
use Rattle.run_command.specs.declared.page.JsonFault.TheVariants as json
use Rattle.run_command.specs.declared.page.TheConstants.{EVENTS_MAX}
use Rattle.run_command.specs.Drawing.{drawn, HasManyLines}
use Rattle.run_command.specs.Replay.{IsRunOf}
use Rattle.scripts.specs.declared.fault.RunFault.TheVariants.{WriteFailed, NoMemory}
use Rattle.scripts.specs.declared.fault.ScriptFault.{ScriptFault}
use Rattle.scripts.specs.Scenario.{Said}
use Rattle.scripts.specs.Writing.{IsNoRun, IsWritingFaultOf, Wrote}

-- ---- JSON

-- the report on a run as JSON, from the tree in which its roots were granted on
abbrev pub run_json : (said : Said) (tree : State) (events : List Event) (replies : List (List Outcome))
    → IsRunOf said tree events replies → List ℕ
run_json said tree events replies run = report_json run.opened.roots.tree events replies

-- that of some run of what is said
pub record IsJsonOf (said : Said) (text : List ℕ) : Type 0 where
  pub tree : State
  pub events : List Event
  pub replies : List (List Outcome)
  pub run : IsRunOf said tree events replies
  pub is : text ≡ run_json said tree events replies run

-- some run has more events than are told
pub record HasManyEvents (said : Said) : Type 0 where
  pub tree : State
  pub events : List Event
  pub replies : List (List Outcome)
  pub run : IsRunOf said tree events replies
  pub over : EVENTS_MAX < length events

-- why events aren't told as JSON
abbrev pub IsUntold : List Event → JsonFault → Type 0
IsUntold events (json.Run fault) = fault ≡ NoMemory
IsUntold events json.TooManyEvents = EVENTS_MAX < length events

-- why a run of a script whose checks have passed isn't told as JSON
abbrev pub IsNoJson : Said → JsonFault → Type 0
IsNoJson said (json.Run fault) = IsNoRun said fault
IsNoJson said json.TooManyEvents = HasManyEvents said

abbrev pub IsJsonFaultOf : Result Said ScriptFault → JsonFault → Type 0
IsJsonFaultOf said (json.Run fault) = IsWritingFaultOf IsJsonOf said fault
IsJsonFaultOf said json.TooManyEvents = IsOkAnd said HasManyEvents

-- The report on a run of what the script says was written as JSON, and nothing else; or it failed as it should, and
-- but for a writer that failed nothing was written.
abbrev pub IsJson : {T : Type 0} → Result Said ScriptFault → Option (List ℕ) → Option (List ℕ) → Result T JsonFault
    → Type 0
IsJson said old new result = MatchResult result
    (λ _. Wrote IsJsonOf said old new)
    (λ fault. IsJsonFaultOf said fault × (fault ≢ json.Run WriteFailed → Keeps old new))

-- ---- the page

-- a run as a page plays it: its report as JSON, and its picture
abbrev pub run_played : (closes : Closes) (said : Said) (tree : State) (events : List Event)
    (replies : List (List Outcome)) → IsRunOf said tree events replies → Played
run_played closes said tree events replies run = record {
  report = run_json said tree events replies run;
  picture = drawn closes said tree events replies run;
}

-- the page of the report on some run as text, and of that run
pub record IsPageOf (closes : Closes) (said : Said) (text : List ℕ) : Type 0 where
  pub tree : State
  pub events : List Event
  pub replies : List (List Outcome)
  pub run : IsRunOf said tree events replies
  pub is : text ≡ page_of (report_text events replies tree (length said.plans))
      (run_played closes said tree events replies run ∷ [])

-- its faults are those of a drawing
abbrev pub IsPageFaultOf : Closes → Result Said ScriptFault → DrawFault → Type 0
IsPageFaultOf closes said (Run fault) = IsWritingFaultOf (IsPageOf closes) said fault
IsPageFaultOf closes said TooManyActors = IsOkAnd said (λ s. ACTORS_MAX < length s.plans)
IsPageFaultOf closes said TooManyLines = IsOkAnd said (HasManyLines closes)

-- the page of a run of what the script says was written, and nothing else; or it failed as a drawing does
abbrev pub IsPage : {T : Type 0} → Closes → Result Said ScriptFault → Option (List ℕ) → Option (List ℕ)
    → Result T DrawFault → Type 0
IsPage closes said old new result = MatchResult result
    (λ _. Wrote (IsPageOf closes) said old new)
    (λ fault. IsPageFaultOf closes said fault × (fault ≢ Run WriteFailed → Keeps old new))
