-- How large the parts are that directories' names get, where a call lists several.
use Rattle.std.specs.Prelude.{◌≤◌, ◌-◌, ◌/◌, ℕ, List, [], ◌∷◌, ◌==◌, if◌then◌else◌, nat_lt, sum}
use Rattle.std.specs.List.{sum_by}

-- so many bytes of names a call holds, but for the least parts
abbrev pub ALL_NAMES : ℕ
ALL_NAMES = 4194304

-- two names of 255 bytes, with a slash before each
abbrev pub LEAST_PART : ℕ
LEAST_PART = 512

abbrev pub MOST_PART : ℕ
MOST_PART = 1048576

-- a fourth of what is left beside what is held
abbrev pub share : ℕ → ℕ
share held = (ALL_NAMES - held) / 4

abbrev pub part_size : ℕ → ℕ
part_size held =
    if nat_lt (share held) LEAST_PART then LEAST_PART
    else (if nat_lt MOST_PART (share held) then MOST_PART else share held)

-- ---- what a call holds

-- A directory's names were read, so many bytes. Or the ones at this place are let go.
pub data Change : Type 0 where
  reads : ℕ → Change
  lets_go : ℕ → Change

-- without the one at this place
abbrev pub without_at : ℕ → List ℕ → List ℕ
without_at place [] = []
without_at place (part ∷ parts) = if place == 0 then parts else part ∷ without_at (place - 1) parts

-- what is held after these changes, the last one first
abbrev pub held_by : Change → List ℕ → List ℕ
held_by (reads used) parts = used ∷ parts
held_by (lets_go place) parts = without_at place parts

abbrev pub held_after : List Change → List ℕ
held_after [] = []
held_after (change ∷ older) = held_by change (held_after older)

-- each directory got its part beside what was held then
abbrev pub Fits : Change → List ℕ → Type 0
Fits (reads used) parts = used ≤ part_size (sum parts)
Fits (lets_go place) parts = Unit {0}

abbrev pub EachFits : List Change → Type 0
EachFits [] = Unit {0}
EachFits (change ∷ older) = Fits change (held_after older) × EachFits older

-- so many bytes are held, but for the least part of each
abbrev pub beyond_least : List ℕ → ℕ
beyond_least parts = sum_by (λ used. used - LEAST_PART) parts
