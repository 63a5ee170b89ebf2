-- The entries that records of getdents64(2) tell of (Listing.antt), one behind another. An entry's type is the byte
-- before its name.
use Rattle.std.specs.Prelude.{◌≡◌, ◌≤◌, ◌-◌, ℕ, zero, suc, List, [], ◌∷◌, ◌==◌, Bool, not, ◌&&◌, if◌then◌else◌, length, drop, slice_index, Option, Some, None}
use Rattle.std.specs.List.{list_any}
use Rattle.path_text.specs.Text.{is_empty}
use Rattle.path_text.specs.declared.name.TheConstants.{SLASH}
use Rattle.system_calls.specs.Listing.{is_entry, name_told, size_told, HEAD_SIZE}
use Rattle.system_calls.specs.declared.entries.Coming.{Coming}
use Rattle.system_calls.specs.declared.entries.Coming.TheVariants.{Entry, Fault, Nothing}

abbrev pub type_told : List ℕ → ℕ
type_told bytes = slice_index bytes (HEAD_SIZE - 1)

-- An entry has a name of a byte at least, without a slash. File systems whose names aren't counted in bytes, as vfat,
-- have names over 255 bytes, too.
abbrev pub is_told_name : List ℕ → Bool
is_told_name name = not (is_empty name) && not (list_any (λ b. b == SLASH) name)

-- an entry, by its name and its type; or what is no record, or no name
pub data Told : Type 0 where
  entry : List ℕ → ℕ → Told
  fault : Told

-- What a record of this name and type tells, before those behind it. Behind a fault nothing is told.
abbrev pub with_record : Option (List ℕ) → ℕ → List Told → List Told
with_record None type behind = fault ∷ []
with_record (Some name) type behind =
    if not (is_entry name) then behind
    else (if is_told_name name then entry name type ∷ behind else fault ∷ [])

-- what bytes tell behind the first ones, so many
abbrev pub told_behind : ℕ → List ℕ → List Told
told_behind first [] = []
told_behind (suc first) (b ∷ bytes) = told_behind first bytes
told_behind zero (b ∷ bytes) =
    with_record (name_told (b ∷ bytes)) (type_told (b ∷ bytes)) (told_behind (size_told (b ∷ bytes) - 1) bytes)

-- all that bytes tell
abbrev pub told_in : List ℕ → List Told
told_in bytes = told_behind 0 bytes

-- these bytes are the last ones of all
abbrev pub IsBehind : List ℕ → List ℕ → Type 0
IsBehind bytes behind = (length behind ≤ length bytes) × (behind ≡ drop (length bytes - length behind) bytes)

-- what they tell first
abbrev pub Comes : List ℕ → Coming → Type 0
Comes bytes Nothing = told_in bytes ≡ []
Comes bytes Fault = told_in bytes ≡ fault ∷ []
Comes bytes (Entry name type behind) =
    (told_in bytes ≡ entry name.now type ∷ told_in behind.now) × IsBehind bytes behind.now
