-- How deep the lists and objects of a JSON text stand in one another (RFC 8259).
use Rattle.std.specs.Prelude.{ℕ, ◌+◌, ◌-◌, ◌==◌, ◌||◌, List, [], ◌∷◌, Bool, true, false, not, nat_lt, if◌then◌else◌}
use Rattle.scripts.specs.declared.nesting.Place.{Place}
use Rattle.scripts.specs.Limits.{MOST_LEVELS}

-- how many are open behind a byte outside of strings: [ and { open one, ] and } close one (section 2)
abbrev pub levels_behind : ℕ → ℕ → ℕ
levels_behind n b = if b == 91 || b == 123 then n + 1 else (if b == 93 || b == 125 then n - 1 else n)

-- a string stands between two quotation marks, and a backslash in it takes the byte behind it along (section 7)
abbrev pub behind : Place → ℕ → Place
behind place b =
    if place.is_escaped then record { levels = place.levels; in_string = true; is_escaped = false }
    else (if place.in_string then record { levels = place.levels; in_string = not (b == 34); is_escaped = b == 92 }
    else record { levels = levels_behind place.levels b; in_string = b == 34; is_escaped = false })

abbrev pub goes_too_deep : Place → List ℕ → Bool
goes_too_deep place [] = false
goes_too_deep place (b ∷ text) =
    if nat_lt MOST_LEVELS (behind place b).levels then true else goes_too_deep (behind place b) text

abbrev pub is_too_deep : List ℕ → Bool
is_too_deep text = goes_too_deep (record { levels = 0; in_string = false; is_escaped = false }) text
