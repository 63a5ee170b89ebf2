-- Where a script's text has what is refused (RFC 8259): what the text has from there on, and its line and column.
use Rattle.std.specs.Prelude.{ℕ, zero, suc, ◌+◌, ◌-◌, ◌==◌, ◌||◌, ◌&&◌, not, List, [], ◌∷◌, length, take, Bool, false, if◌then◌else◌, Option, Some, None, option_map, option_and_then, codes}
use Rattle.std.specs.Option.{option_or}
use Rattle.path_text.specs.Name.{same_bytes}
use Rattle.scripts.specs.CallFaults as call_faults
use Rattle.scripts.specs.declared.call_fault.CallFault.{CallFault}
use Rattle.scripts.specs.declared.call_fault.CallFault.TheVariants as call_fault
use Rattle.scripts.specs.declared.fault.Cause.TheVariants.{Shape, Refused}
use Rattle.scripts.specs.declared.fault.JsonFault.{JsonFault}
use Rattle.scripts.specs.declared.fault.Loose.{Loose}
use Rattle.scripts.specs.declared.fault.Loose.TheVariants as loose
use Rattle.scripts.specs.declared.fault.ScriptFault.{ScriptFault}
use Rattle.scripts.specs.declared.fault.ScriptFault.TheVariants as fault
use Rattle.command_line.specs.declared.position.Place.{Place}
use Rattle.command_line.specs.Cut.{NEWLINE, front, behind as behind_mark}
use Rattle.command_line.specs.NoJson.{is_white}
use Rattle.command_line.specs.Rows.{is_escaped}

-- what stands behind white space (section 2)
abbrev pub trimmed : List ℕ → List ℕ
trimmed [] = []
trimmed (b ∷ bs) = if is_white b then trimmed bs else b ∷ bs

abbrev pub START : Place
START = record { levels = 0; in_string = false; is_escaped = false }

-- at a comma, or at the bracket of the list or the object
abbrev pub is_end : Place → ℕ → Bool
is_end place b = place.levels == 0 && (not place.in_string && (b == 44 || (b == 93 || b == 125)))

-- [ and { open one, ] and } close one (section 2)
abbrev pub levels_behind : ℕ → ℕ → ℕ
levels_behind n b = if b == 91 || b == 123 then n + 1 else (if b == 93 || b == 125 then n - 1 else n)

-- a string stands between two quotation marks, and a backslash in it takes the byte behind it along (section 7)
abbrev pub behind : Place → ℕ → Place
behind place b =
    if place.in_string then
    record {
      levels = place.levels;
      in_string = place.is_escaped || not (b == 34);
      is_escaped = not place.is_escaped && b == 92;
    }
    else record { levels = levels_behind place.levels b; in_string = b == 34; is_escaped = false }

-- the next element of a list, or member of an object: what stands behind the comma between (sections 4 and 5)
abbrev pub next_of : Place → List ℕ → Option (List ℕ)
next_of place [] = None
next_of place (b ∷ bs) =
    if is_end place b then (if b == 44 then Some (trimmed bs) else None) else next_of (behind place b) bs

abbrev pub unless_end : List ℕ → Option (List ℕ)
unless_end [] = None
unless_end (b ∷ bs) = if is_end START b then None else Some (b ∷ bs)

-- the first one, behind the bracket
abbrev pub inside : ℕ → List ℕ → Option (List ℕ)
inside bracket [] = None
inside bracket (b ∷ bs) = if b == bracket then unless_end (trimmed bs) else None

-- so many further
abbrev pub further : ℕ → List ℕ → Option (List ℕ)
further zero text = Some text
further (suc n) text = option_and_then (further n) (next_of START text)

-- an element of a list
abbrev pub item : ℕ → List ℕ → Option (List ℕ)
item n list = option_and_then (further n) (inside 91 list)

-- a member's key stands between the first two quotation marks, and its value behind the colon
abbrev pub key_of : List ℕ → List ℕ
key_of member = front 34 (behind_mark 34 member)

abbrev pub value_of : List ℕ → List ℕ
value_of member = trimmed (behind_mark 58 (behind_mark 34 (behind_mark 34 member)))

abbrev pub later : List ℕ → List ℕ → Option (List ℕ) → Option (List ℕ)
later key member found = if same_bytes (key_of member) key then Some member else found

-- by the next member, if there is one
abbrev pub or_by : Option (List ℕ) → Option (List ℕ) → (List ℕ → Option (List ℕ)) → Option (List ℕ)
or_by None found by = found
or_by (Some member) found by = by member

-- the last of so many members with that key; an escape may hide a key
abbrev pub last_among : ℕ → List ℕ → Option (List ℕ) → List ℕ → Option (List ℕ)
last_among zero key found member = found
last_among (suc n) key found member =
    if is_escaped (key_of member) then None
    else or_by (next_of START member) (later key member found) (last_among n key (later key member found))

-- an object has fewer members than bytes
abbrev pub last_member : List ℕ → List ℕ → Option (List ℕ)
last_member key object = option_and_then (last_among (length object) key None) (inside 123 object)

abbrev pub under : List ℕ → List ℕ → Option (List ℕ)
under key object = option_map value_of (last_member key object)

abbrev pub item_under : List ℕ → ℕ → List ℕ → Option (List ℕ)
item_under key place object = option_and_then (item place) (under key object)

-- ---- of a script

abbrev pub actor_in : ℕ → List ℕ → Option (List ℕ)
actor_in actor script = item_under (codes "actors") actor script

abbrev pub call_in : ℕ → ℕ → List ℕ → Option (List ℕ)
call_in actor call script = option_and_then (item_under (codes "calls") call) (actor_in actor script)

-- the field that is wrong, or the call where one is missing
abbrev pub field_of : CallFault → List ℕ → Option (List ℕ)
field_of (call_fault.Missing field) call = Some call
field_of (call_fault.Shape field) call = under (call_faults.key_of field) call
field_of (call_fault.Unknown field) call = under (call_faults.key_of field) call
field_of (call_fault.NotGiven field) call = under (call_faults.key_of field) call
field_of call_fault.Taken call = under (codes "as") call
field_of call_fault.ReleasesRoot call = under (codes "on") call

-- a restriction, a label, or the actor or the call that has a key which nobody looks at
abbrev pub loose_in : Loose → List ℕ → Option (List ℕ)
loose_in loose.Key script = None
loose_in (loose.ActorKey actor) script = actor_in actor script
loose_in (loose.CallKey actor call keys) script = call_in actor call script
loose_in (loose.Restriction actor call) script =
    option_and_then (λ text. option_or (under (codes "beneath") text) (under (codes "no_links") text))
    (call_in actor call script)
loose_in (loose.Label actor call) script = option_and_then (under (codes "as")) (call_in actor call script)

-- what is refused
abbrev pub text_from : ScriptFault → List ℕ → Option (List ℕ)
text_from fault.NotObject script = Some script
text_from fault.Version script = under (codes "version") script
text_from fault.Lines script = under (codes "lines") script
text_from fault.Tree script = under (codes "tree") script
text_from fault.TooManyEntries script = under (codes "tree") script
text_from (fault.TreeEntry place cause) script = item_under (codes "tree") place script
text_from fault.Actors script = under (codes "actors") script
text_from fault.TooManyActors script = under (codes "actors") script
text_from (fault.Actor actor (Refused error)) script = option_and_then (under (codes "root")) (actor_in actor script)
text_from (fault.Actor actor Shape) script = actor_in actor script
text_from (fault.TooManyCalls actor) script = option_and_then (under (codes "calls")) (actor_in actor script)
text_from (fault.Call actor call (Some wrong)) script = option_and_then (field_of wrong) (call_in actor call script)
text_from (fault.Call actor call None) script = call_in actor call script
text_from (fault.NoJob call) script = call_in 0 call script
text_from fault.Schedule script = under (codes "schedule") script
text_from fault.TooManyTurns script = under (codes "schedule") script
text_from (fault.Turn place) script = item_under (codes "schedule") place script
text_from (fault.Loose loose) script = loose_in loose script
text_from other script = None

-- the line and the column behind these bytes
abbrev pub line_column : ℕ → ℕ → List ℕ → JsonFault
line_column line column [] = record { is_cut_short = false; line = line; column = column }
line_column line column (b ∷ bs) =
    if b == NEWLINE then line_column (line + 1) 1 bs else line_column line (column + 1) bs

abbrev pub position_of : ScriptFault → List ℕ → Option JsonFault
position_of fault script =
    option_map (λ from. line_column 1 1 (take (length script - length from) script)) (text_from fault (trimmed script))
