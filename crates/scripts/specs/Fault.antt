-- How a run that fails tells it.
use Rattle.std.specs.Prelude.{⊤, ◌≡◌, false, Option, Some, None, Result, Err}
use Rattle.scripts.specs.declared.detail.Detail.{Detail}
use Rattle.scripts.specs.declared.fault.JsonFault.{JsonFault}
use Rattle.scripts.specs.declared.fault.RunFault.{RunFault}
use Rattle.scripts.specs.declared.fault.RunFault.TheVariants.{Script, ReadFailed, WriteFailed, NoMemory, BookFull}
use Rattle.scripts.specs.declared.fault.ScriptFault.{ScriptFault}
use Rattle.scripts.specs.declared.fault.ScriptFault.TheVariants.{NotJson}

-- what the definitions have in place of where a text stops being JSON, since serde_json doesn't state that
abbrev pub SOMEWHERE : JsonFault
SOMEWHERE = record { is_cut_short = false; line = 0; column = 0 }

-- a fault, but for where a text stops being JSON
abbrev pub check_of : ScriptFault → ScriptFault
check_of (NotJson where_it_stops) = NotJson SOMEWHERE
check_of fault = fault

-- the run's fault is that of the script, or a want of memory
abbrev pub IsFaultOf : {A : Type 0} → Result A ScriptFault → RunFault → Type 0
IsFaultOf said (Script fault) = said ≡ Err (check_of fault)
IsFaultOf said ReadFailed = ⊥
IsFaultOf said WriteFailed = ⊥
IsFaultOf said NoMemory = ⊤
IsFaultOf said BookFull = ⊥

-- what is told beside the check that failed
abbrev pub detail_of : RunFault → Option Detail
detail_of (Script fault) = Some (record { fault = fault })
detail_of ReadFailed = None
detail_of WriteFailed = None
detail_of NoMemory = None
detail_of BookFull = None
