-- The statuses that the program ends with: these five, and no other.
use Rattle.std.specs.Borrow.{Bor}
use Rattle.std.specs.Prelude.{⊤, ℕ, List, Bool, if◌then◌else◌, slice_get, codes, is_some, Option, Some, None, option_and_then, Result, Ok, Err}
use Rattle.serde_json.specs.Data.{Data}
use Rattle.serde_json.specs.Find.{get, at}
use Rattle.scripts.specs.declared.fault.RunFault.TheVariants.{Script, ReadFailed, WriteFailed, NoMemory, BookFull}
use Rattle.scripts.specs.declared.fault.ScriptFault.TheVariants.{Turn, TooManyTurns}
use Rattle.outcome_text.specs.declared.merging.MergeFault.{MergeFault}
use Rattle.outcome_text.specs.declared.merging.MergeFault.TheVariants as merge
use Rattle.command_line.specs.declared.ending.Fault.{Fault}
use Rattle.command_line.specs.declared.ending.Fault.TheVariants.{Usage, NotUtf8, Schedule, AskedTurn, AskedTurns, BeginTurn, Width, Color, NoScript, NoRequest, Run, Options, PropertyFails, Explore, Merge, DrawActors, DrawLines, ReplayEvents, Service}
use Rattle.run_command.specs.declared.drawing.DrawFault.{DrawFault}
use Rattle.run_command.specs.declared.page.JsonFault.{JsonFault}
use Rattle.run_command.specs.declared.page.JsonFault.TheVariants as json
use Rattle.run_command.specs.declared.jobs.JobsFault.{JobsFault}
use Rattle.run_command.specs.declared.jobs.JobsFault.TheVariants as jobs
use Rattle.schedule_graph.specs.declared.fault.SearchFault.TheVariants.{NotBusy}
use Rattle.scripts.specs.declared.turns.TurnOrder.{TurnOrder}
use Rattle.scripts.specs.declared.turns.TurnOrder.TheVariants.{OfScript, Asked}
use Rattle.scripts.specs.declared.turns.Turns.{Turns}
use Rattle.scripts.specs.Turns.{SaysTurns}
use Rattle.run_command.specs.declared.drawing.DrawFault.TheVariants as drawing
use Rattle.outcome_text.specs.declared.asked.OptionFault.{OptionFault}
use Rattle.outcome_text.specs.declared.asked.OptionFault.TheVariants as option
use Rattle.outcome_text.specs.declared.fault.ExploreFault.{ExploreFault}
use Rattle.outcome_text.specs.declared.fault.ExploreFault.TheVariants as explore

abbrev pub ANSWERED : ℕ
ANSWERED = 0

abbrev pub PROPERTY_FAILS : ℕ
PROPERTY_FAILS = 1

abbrev pub USAGE : ℕ
USAGE = 2

abbrev pub SCRIPT_REFUSED : ℕ
SCRIPT_REFUSED = 3

abbrev pub FAILED : ℕ
FAILED = 4

abbrev pub status_of : {T : Type 0} → Result T Fault → ℕ
status_of (Ok answer) = ANSWERED
status_of (Err Usage) = USAGE
status_of (Err NotUtf8) = USAGE
status_of (Err Schedule) = USAGE
status_of (Err (AskedTurn at)) = USAGE
status_of (Err AskedTurns) = USAGE
status_of (Err (BeginTurn at)) = USAGE
status_of (Err Width) = USAGE
status_of (Err Color) = USAGE
status_of (Err NoScript) = FAILED
status_of (Err NoRequest) = FAILED
status_of (Err (Run (Script fault))) = SCRIPT_REFUSED
status_of (Err (Run ReadFailed)) = FAILED
status_of (Err (Run WriteFailed)) = FAILED
status_of (Err (Run NoMemory)) = FAILED
status_of (Err (Run BookFull)) = FAILED
status_of (Err PropertyFails) = PROPERTY_FAILS
status_of (Err (Options option.NoMemory)) = FAILED
status_of (Err (Options other)) = USAGE
status_of (Err (Explore (explore.NoSuchActor actor))) = USAGE
status_of (Err (Explore (explore.NoSuchLine place))) = USAGE
status_of (Err (Explore fault)) = FAILED
status_of (Err (Merge fault)) = FAILED
status_of (Err DrawActors) = FAILED
status_of (Err DrawLines) = FAILED
status_of (Err ReplayEvents) = FAILED
status_of (Err (Service fault)) = FAILED

-- how the program tells why nothing was drawn
abbrev pub told_of : DrawFault → Fault
told_of (drawing.Run fault) = Run fault
told_of drawing.TooManyActors = DrawActors
told_of drawing.TooManyLines = DrawLines

-- how it tells why nothing was told as JSON
abbrev pub json_told_of : JsonFault → Fault
json_told_of (json.Run fault) = Run fault
json_told_of json.TooManyEvents = ReplayEvents

-- how it tells why jobs have no replies
abbrev pub jobs_told_of : JobsFault → Fault
jobs_told_of (jobs.Run fault) = Run fault
jobs_told_of (jobs.Service fault) = Service fault

-- how it tells which option of an exploration is refused, or that it isn't read
abbrev pub options_told_of : OptionFault → Fault
options_told_of option.NoMemory = Run NoMemory
options_told_of other = Options other

-- how it tells why nothing was explored
abbrev pub explore_told_of : ExploreFault → Fault
explore_told_of (explore.Run fault) = Run fault
explore_told_of other = Explore other

-- how it tells why parts make no whole
abbrev pub merge_told_of : MergeFault → Fault
merge_told_of merge.ReadFailed = Run ReadFailed
merge_told_of merge.WriteFailed = Run WriteFailed
merge_told_of merge.NoMemory = Run NoMemory
merge_told_of other = Merge other

-- the order of the turns that a text says, or of the script where there is none; or the text says none
abbrev pub IsOrder : Option (Bor (List ℕ)) → Result TurnOrder Fault → Type 0
IsOrder None (Ok OfScript) = ⊤
IsOrder None (Ok (Asked turns)) = ⊥
IsOrder None (Err fault) = ⊥
IsOrder (Some text) (Ok OfScript) = ⊥
IsOrder (Some text) (Ok (Asked turns)) = SaysTurns text.now turns.items
IsOrder (Some text) (Err Schedule) = (turns : List Turns) → SaysTurns text.now turns → ⊥
IsOrder (Some text) (Err (Run NoMemory)) = ⊤
IsOrder (Some text) (Err other) = ⊥

-- where turns are asked for, they are at fault, and not the script
abbrev pub blamed_of : TurnOrder → Fault → Fault
blamed_of OfScript fault = fault
blamed_of (Asked turns) (Run (Script (Turn at))) = AskedTurn at
blamed_of (Asked turns) (Run (Script TooManyTurns)) = AskedTurns
blamed_of (Asked turns) other = other

-- a script has an actor of that number
abbrev pub is_actor : ℕ → Data → Bool
is_actor actor script = is_some (option_and_then (at actor) (get (codes "actors") script))

-- the turn of a beginning is no actor's
abbrev pub begun_by : Option ℕ → ℕ → Data → Fault → Fault
begun_by None place script fault = fault
begun_by (Some actor) place script fault = if is_actor actor script then fault else BeginTurn place

-- where a beginning has a turn of no actor, the option is at fault
abbrev pub begun_of : List ℕ → Data → Fault → Fault
begun_of begin script (Explore (explore.Search (NotBusy place))) =
    begun_by (slice_get begin place) place script (Explore (explore.Search (NotBusy place)))
begun_of begin script other = other
