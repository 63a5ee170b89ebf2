-- Which descriptor a call hands out of a handle, and what becomes of the handle's own.
use Rattle.std.specs.Prelude.{◌≡◌, ℕ, List, [], ◌∷◌, ◌==◌, ◌⊎◌, Bool, true, false, not, ◌&&◌, ◌||◌, if◌then◌else◌, Option, Some, None}
use Rattle.system_calls.specs.Errors.{ENOMEM}
use Rattle.call_course.specs.declared.taking.Taking.{Taking}

-- The handle's descriptor is shared with the caller, whose own it is; it is held.
abbrev pub taken : Bool → Bool → Taking
taken shared held = record { error = if shared || held then 0 else ENOMEM; anew = shared }

-- ---- what a driver has that does so

abbrev pub listed : Option ℕ → List ℕ
listed None = []
listed (Some fd) = fd ∷ []

-- before: the handle's descriptor, unless that is the caller's own
abbrev pub had : Bool → Bool → ℕ → List ℕ
had shared held fd = if held && not shared then fd ∷ [] else []

-- what it opens: nothing, if that fails
abbrev pub opened_by : Taking → Option ℕ → List ℕ
opened_by t anew = if t.anew then listed anew else []

abbrev pub given_by : Taking → ℕ → Option ℕ → Option ℕ
given_by t fd anew = if not (t.error == 0) then None else (if t.anew then anew else Some fd)

-- the handle's own descriptor, of which the caller has none yet; or one that was opened anew
abbrev pub IsOwn : Bool → Bool → ℕ → Option ℕ → ℕ → Type 0
IsOwn shared held fd anew given =
    ((held ≡ true) × ((shared ≡ false) × (given ≡ fd))) ⊎ (opened_by (taken shared held) anew ≡ given ∷ [])
