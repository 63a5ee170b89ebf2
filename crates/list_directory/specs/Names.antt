-- The names of the records that a listing reads (getdents64(2)), as they lie in its room.
use Rattle.std.specs.Prelude.{◌≡◌, ◌≤◌, ℕ, ◌+◌, ◌-◌, List, [], ◌∷◌, ◌++◌, Bool, ◌||◌, if◌then◌else◌, length, take}
use Rattle.path_text.specs.Text.{is_empty}
use Rattle.system_calls.specs.Listing.{entries_text, ReadsTo, Stops}
use Rattle.list_directory.specs.declared.asking.Outcome.{Outcome}

-- Behind so many bytes of names come those of the first records that there is room for, and why no more.
pub record Lays (before : ℕ) (records old : List ℕ) (names : List (List ℕ)) (gave : Outcome) (new : List ℕ) : Type 0
  where
    pub rest : List ℕ
    pub full : Bool
    pub read : ReadsTo records names rest
    pub used : gave.used ≡ before + length (entries_text names)
    pub within : gave.used ≤ length old
    pub size : length new ≡ length old
    pub laid : take gave.used new ≡ take before old ++ entries_text names
    pub stop : Stops rest (length old - gave.used) full gave.error
    pub last : gave.last ≡ (full || is_empty records)

abbrev pub IsRead : ℕ → List ℕ → List ℕ → Outcome → List ℕ → Type 0
IsRead before records old gave new = (names : List (List ℕ)) × Lays before records old names gave new

-- ---- one read after another, the last one first

-- the records, the names that were taken of them, what that gave, and the room then
pub record Reading : Type 0 where
  pub records : List ℕ
  pub names : List (List ℕ)
  pub gave : Outcome
  pub room : List ℕ

abbrev pub used_after : List Reading → ℕ
used_after [] = 0
used_after (r ∷ older) = r.gave.used

abbrev pub room_after : List ℕ → List Reading → List ℕ
room_after first [] = first
room_after first (r ∷ older) = r.room

-- the names of all records that were read, in their order
abbrev pub names_after : List Reading → List (List ℕ)
names_after [] = []
names_after (r ∷ older) = names_after older ++ r.names

-- none of the records was taken as an entry's
abbrev pub idle : List Reading → ℕ
idle [] = 0
idle (r ∷ older) = idle older + (if is_empty (entries_text r.names) then 1 else 0)

abbrev pub AreRead : List ℕ → List Reading → Type 0
AreRead first [] = Unit {0}
AreRead first (r ∷ older) =
    Lays (used_after older) r.records (room_after first older) r.names r.gave r.room × AreRead first older
