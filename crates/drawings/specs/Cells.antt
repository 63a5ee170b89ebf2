-- What a place of a picture shows of a text.
use Rattle.std.specs.Prelude.{ℕ, zero, suc, ◌-◌, ◌==◌, List, [], ◌∷◌, ◌++◌, length, take, drop, replicate, slice_get, nat_le, nat_lt, Bool, false, if◌then◌else◌, Option, Some, None, codes, decimal}
use Rattle.event_log.specs.Words.{BLANK}

-- the text, or what there is room for before a tilde
abbrev pub cut : ℕ → List ℕ → List ℕ
cut width text = if nat_le (length text) width then text else take (width - 1) text ++ codes "~"

-- the same with blanks after it, up to that width
abbrev pub fitted : ℕ → List ℕ → List ℕ
fitted width text = cut width text ++ replicate (width - length text) BLANK

-- blanks before it, up to that width
abbrev pub to_right : ℕ → List ℕ → List ℕ
to_right width text = replicate (width - length text) BLANK ++ text

-- a text has a blank at that place
abbrev pub is_blank_byte : Option ℕ → Bool
is_blank_byte None = false
is_blank_byte (Some b) = b == BLANK

abbrev pub is_blank : List ℕ → ℕ → Bool
is_blank text at = is_blank_byte (slice_get text at)

-- the last of the places up to that one, but for the beginning, where a text has a blank; `none` where there is none
abbrev pub last_blank : ℕ → List ℕ → ℕ → ℕ
last_blank none text zero = none
last_blank none text (suc at) = if is_blank text (suc at) then suc at else last_blank none text at

-- how much of a text stands in a row of that width: all, or what stands before a blank, or what there is room for
abbrev pub row_end : ℕ → List ℕ → ℕ
row_end width text = if nat_le (length text) width then length text else last_blank width text width

-- a text by its rows, which are so many at most
abbrev pub pieces : ℕ → ℕ → List ℕ → List (List ℕ)
pieces zero width text = []
pieces (suc most) width text =
    if nat_lt 0 (length text)
    then take (row_end width text) text ∷ pieces most width (drop (row_end width text) text)
    else []

-- a moment's number
abbrev pub mark_of : Option ℕ → List ℕ
mark_of None = []
mark_of (Some moment) = decimal moment

abbrev pub actor_name : ℕ → List ℕ
actor_name actor = codes "actor " ++ decimal actor
