-- What `inroot replay` writes: the text of a report on a run of the world that the script says.
use Rattle.std.specs.Prelude.{⊤, ◌≡◌, ◌≢◌, ℕ, List, length, Option, Result, Ok, MatchResult}
use Rattle.std.specs.Io.KnownBytes.{Keeps}
use Rattle.handles.specs.Objects.{StandingObject}
use Rattle.race_core.specs.declared.report.Outcome.{Outcome}
use Rattle.race_core.specs.declared.report.WorldFault.{WorldFault}
use Rattle.race_core.specs.declared.report.WorldFault.TheVariants as world
use Rattle.race_core.specs.Opening.{Opens}
use Rattle.race_core.specs.Worlds.{WorldView, RunsTo}
use Rattle.report_text.specs.Report.{report_text}
use Rattle.tree_model.specs.declared.answer.Event.{Event}
use Rattle.tree_model.specs.State.{State}
use Rattle.scripts.specs.declared.fault.RunFault.{RunFault}
use Rattle.scripts.specs.declared.fault.RunFault.TheVariants.{WriteFailed, NoMemory, BookFull}
use Rattle.scripts.specs.declared.fault.ScriptFault.{ScriptFault}
use Rattle.scripts.specs.Scenario.{Said}
use Rattle.scripts.specs.Writing.{tree_of, IsWritingFaultOf, Wrote}

-- Of some run of what the script says, by the schedule and then each actor to its end: the tree, the events and the
-- replies. Runs of one script differ by nothing but where a turn had no memory.
pub record IsRunOf (said : Said) (tree : State) (events : List Event) (replies : List (List Outcome)) : Type 0 where
  pub world : WorldView
  pub opened : Opens (tree_of said) said.plans said.lines (Ok world)
  pub kept : List StandingObject
  pub ran : RunsTo world said.schedule tree events replies kept

-- the text of the report on such a run
pub record IsTextOf (said : Said) (text : List ℕ) : Type 0 where
  pub tree : State
  pub events : List Event
  pub replies : List (List Outcome)
  pub run : IsRunOf said tree events replies
  pub is : text ≡ report_text events replies tree (length said.plans)

-- a world that can be played is refused for its lines or for want of memory, and so it is told
abbrev pub CanCome : WorldFault → Type 0
CanCome world.BookFull = ⊤
CanCome world.NoMemory = ⊤
CanCome other = ⊥

abbrev pub told_of : WorldFault → RunFault
told_of world.BookFull = BookFull
told_of other = NoMemory

-- The replay wrote the text of a report on a run of what the script says, and nothing else; or it failed as it
-- should, and but for a writer that failed nothing was written.
abbrev pub IsReplay : {T : Type 0} → Result Said ScriptFault → Option (List ℕ) → Option (List ℕ) → Result T RunFault
    → Type 0
IsReplay said old new result = MatchResult result
    (λ _. Wrote IsTextOf said old new)
    (λ fault. IsWritingFaultOf IsTextOf said fault × (fault ≢ WriteFailed → Keeps old new))
