-- Why a script is no JSON text, and where.
use Rattle.std.specs.Prelude.{ℕ, ◌-◌, ◌==◌, ◌||◌, nat_le, nat_lt, List, [], ◌∷◌, ◌++◌, length, take, drop, map, Bool, if◌then◌else◌, nat_eq, Option, Some, None, codes, decimal, Result}
use Rattle.std.specs.List.{flat_map, list_all, starts_with}
use Rattle.std.specs.Str.{IsUtf8}
use Rattle.std.specs.Str.Lossy.{utf8_valid_len}
use Rattle.scripts.specs.declared.fault.JsonFault.{JsonFault}
use Rattle.event_log.specs.Output.{Gains}
use Rattle.command_line.specs.declared.no_json.TheConstants.{BEFORE_MAX, BEHIND_MAX}
use Rattle.command_line.specs.Cut.{NEWLINE, front, lines_behind}
use Rattle.command_line.specs.Entry.{printed_byte, printed}

-- the four blanks of JSON
abbrev pub is_white : ℕ → Bool
is_white b = b == 0x20 || (b == 9 || (b == 10 || b == 13))

-- the line of that number, counted from 1
abbrev pub line_at : List ℕ → ℕ → List ℕ
line_at text number = front NEWLINE (lines_behind (number - 1) text)

-- a line before the byte that is at fault, and from there on; none where there is no such byte
abbrev pub parts_by : JsonFault → List ℕ → Option (List ℕ × List ℕ)
parts_by fault line =
    if fault.is_cut_short || (fault.column == 0 || nat_lt (length line) fault.column) then None
    else Some (take (fault.column - 1) line, drop (fault.column - 1) line)

abbrev pub parts_at : List ℕ → JsonFault → Option (List ℕ × List ℕ)
parts_at script fault = parts_by fault (line_at script fault.line)

-- what is shown of the bytes before it, and of it and those behind
abbrev pub last_of : List ℕ → List ℕ
last_of bytes = drop (length bytes - BEFORE_MAX) bytes

abbrev pub first_of : List ℕ → List ℕ
first_of bytes = if nat_le (length bytes) BEHIND_MAX then bytes else take BEHIND_MAX bytes

abbrev pub place_words : JsonFault → List ℕ
place_words fault = codes " at line " ++ (decimal fault.line ++ (codes ", column " ++ decimal fault.column))

-- the first of these bytes may not stand there
abbrev pub quoted : List ℕ → List ℕ
quoted [] = []
quoted (b ∷ bs) = codes ": unexpected '" ++ (printed_byte b ++ codes "'")

abbrev pub quoted_at : Option (List ℕ × List ℕ) → List ℕ
quoted_at None = []
quoted_at (Some (before, from)) = quoted from

abbrev pub wrong : List ℕ → List ℕ → JsonFault → List ℕ
wrong words script fault = (words ++ place_words fault) ++ quoted_at (parts_at script fault)

-- the text ends too soon, or has a byte that may not stand there
abbrev pub unexpected : List ℕ → JsonFault → List ℕ
unexpected script fault =
    if fault.is_cut_short then codes "the text ends too soon" ++ place_words fault
    else wrong (codes "not valid JSON") script fault

abbrev pub ORDER_MARK : List ℕ
ORDER_MARK = 0xef ∷ 0xbb ∷ 0xbf ∷ []

abbrev pub not_utf8 : ℕ → List ℕ
not_utf8 valid = codes "not UTF-8 after byte " ++ (decimal valid ++ codes " of the script")

-- a script is empty, or begins with a byte order mark
abbrev pub plain_reason : List ℕ → Option (List ℕ)
plain_reason script =
    if list_all is_white script then
    Some (codes "the script is empty: name its file, or give the script on standard input")
    else (if starts_with nat_eq script ORDER_MARK then
    Some (codes "a byte order mark stands before the JSON text: take out the first three bytes")
    else None)

-- else it is no UTF-8 from some byte on, or no JSON
abbrev pub IsToldBy : {T E : Type 0} → Option (List ℕ) → List ℕ → JsonFault → List ℕ → List ℕ → Result T E → Type 0
IsToldBy (Some reason) script fault old new result = Gains old new reason result
IsToldBy None script fault old new result =
    (IsUtf8 script → Gains old new (unexpected script fault) result)
    × ((IsUtf8 script → ⊥) → Gains old new (not_utf8 (utf8_valid_len script)) result)

abbrev pub IsTold : {T E : Type 0} → List ℕ → JsonFault → List ℕ → List ℕ → Result T E → Type 0
IsTold script fault old new result = IsToldBy (plain_reason script) script fault old new result

-- ---- the line, and where it is at fault

abbrev pub excerpt_of : Option (List ℕ × List ℕ) → List ℕ
excerpt_of None = []
excerpt_of (Some (before, from)) = printed (last_of before) ++ printed (first_of from)

abbrev pub excerpt : List ℕ → JsonFault → List ℕ
excerpt script fault = excerpt_of (parts_at script fault)

-- a blank for each column that a byte is shown in
abbrev pub blank_byte : ℕ → List ℕ
blank_byte b = map (λ _. 0x20) (printed_byte b)

abbrev pub blanks : List ℕ → List ℕ
blanks text = flat_map blank_byte text

-- the caret stands below the first of the bytes from there on
abbrev pub caret_of : Option (List ℕ × List ℕ) → List ℕ
caret_of None = []
caret_of (Some (before, from)) = blanks (last_of before) ++ codes "^"

abbrev pub caret : List ℕ → JsonFault → List ℕ
caret script fault = caret_of (parts_at script fault)
