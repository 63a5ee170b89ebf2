-- Reading a script, and the data that its JSON text is (RFC 8259).
use Rattle.std.specs.Prelude.{◌≡◌, ℕ, ◌<◌, List, if◌then◌else◌, length, Option, None, Result, Ok, Err, IfSome, ⊤}
use Rattle.std.specs.Str.{is_utf8}
use Rattle.serde_json.specs.Data.{Data}
use Rattle.serde_json.specs.Read.{read}
use Rattle.tree_model.specs.Entries.{with_some}
use Rattle.scripts.specs.declared.fault.RunFault.{RunFault}
use Rattle.scripts.specs.declared.fault.ScriptFault.{ScriptFault}
use Rattle.scripts.specs.declared.fault.RunFault.TheVariants.{Script, ReadFailed, WriteFailed, NoMemory, BookFull}
use Rattle.scripts.specs.declared.fault.ScriptFault.TheVariants.{TooLong, TooDeep, NotJson}
use Rattle.scripts.specs.Fault.{SOMEWHERE}
use Rattle.scripts.specs.Limits.{MOST_BYTES}
use Rattle.scripts.specs.Nesting.{is_too_deep}

-- the fault is one of reading: there is more to read than a script may have, or a read or a growth was refused
abbrev pub IsReadFault : Option (List ℕ) → RunFault → Type 0
IsReadFault known (Script fault) = (fault ≡ TooLong) × IfSome known (λ input. MOST_BYTES < length input)
IsReadFault known ReadFailed = ⊤
IsReadFault known WriteFailed = ⊥
IsReadFault known NoMemory = ⊤
IsReadFault known BookFull = ⊥

-- the data of a JSON text, if the bytes are one
abbrev pub json_of : List ℕ → Option Data
json_of bytes = if is_utf8 bytes then read bytes else None

-- the data of a script, or that it is too deep or no JSON text
abbrev pub data_of : List ℕ → Result Data ScriptFault
data_of bytes =
    if is_too_deep bytes then Err TooDeep else with_some (json_of bytes) (Err (NotJson SOMEWHERE)) (λ d. Ok d)
