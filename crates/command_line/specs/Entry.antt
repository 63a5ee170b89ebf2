-- What a script has where it is refused.
use Rattle.std.specs.Prelude.{⊤, ◌≡◌, false, ℕ, ◌==◌, List, ◌++◌, length, take, nat_le, if◌then◌else◌, Option, Some, None, option_and_then, codes}
use Rattle.std.specs.List.{flat_map}
use Rattle.serde_json.specs.Data.{Data}
use Rattle.serde_json.specs.Find.{get, at}
use Rattle.serde_json.specs.Written.{has_float, compact_text}
use Rattle.event_log.specs.Output.{escaped_byte}
use Rattle.command_line.specs.declared.entry.TheConstants.{ENTRY_MAX}
use Rattle.scripts.specs.declared.fault.Cause.TheVariants.{Shape, Refused}
use Rattle.scripts.specs.declared.fault.ScriptFault.{ScriptFault}
use Rattle.scripts.specs.declared.fault.ScriptFault.TheVariants.{TreeEntry, Actor, Call, NoJob, Turn, Loose}
use Rattle.scripts.specs.declared.fault.Loose.TheVariants.{ActorKey, CallKey, Restriction, Label}

-- the element at a place of the list under a key
abbrev pub item_under : List ℕ → ℕ → Data → Option Data
item_under key place d = option_and_then (at place) (get key d)

abbrev pub call_at : ℕ → ℕ → Data → Option Data
call_at actor call d =
    option_and_then (item_under (codes "calls") call) (item_under (codes "actors") actor d)

-- the entry of the tree, the actor, its root, the call or the turn that is refused
abbrev pub entry_of : ScriptFault → Data → Option Data
entry_of (TreeEntry place cause) d = item_under (codes "tree") place d
entry_of (Actor actor (Refused error)) d = option_and_then (get (codes "root")) (item_under (codes "actors") actor d)
entry_of (Actor actor Shape) d = item_under (codes "actors") actor d
entry_of (Call actor call cause) d = call_at actor call d
entry_of (NoJob call) d = call_at 0 call d
entry_of (Turn place) d = item_under (codes "schedule") place d
entry_of (Loose (ActorKey actor)) d = item_under (codes "actors") actor d
entry_of (Loose (CallKey actor call keys)) d = call_at actor call d
entry_of (Loose (Restriction actor call)) d = call_at actor call d
entry_of (Loose (Label actor call)) d = call_at actor call d
entry_of other d = None

-- a blank and a backslash stand for themselves, and any other byte for what it is escaped as
abbrev pub printed_byte : ℕ → List ℕ
printed_byte b = if b == 0x20 then codes " " else (if b == 0x5c then codes "\\" else escaped_byte b)

abbrev pub printed : List ℕ → List ℕ
printed text = flat_map printed_byte text

-- what there is room for, and a tilde where that isn't all
abbrev pub shown : List ℕ → List ℕ
shown text = if nat_le (length text) ENTRY_MAX then printed text else printed (take ENTRY_MAX text) ++ codes "~"

-- it is shown of a value's text, which is JSON without blanks
abbrev pub IsShownOf : Data → List ℕ → Type 0
IsShownOf d text = (json : List ℕ) × ((has_float d ≡ false → json ≡ compact_text d) × (text ≡ shown json))

-- and nothing where there is no value
abbrev pub IsTold : Option Data → Option (List ℕ) → Type 0
IsTold None None = ⊤
IsTold None (Some text) = ⊥
IsTold (Some d) None = ⊥
IsTold (Some d) (Some text) = IsShownOf d text
