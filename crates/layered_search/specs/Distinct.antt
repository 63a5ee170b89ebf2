-- What stays in its place.
use Rattle.std.specs.Prelude.{◌≡◌, ℕ, List, Some, slice_get}

-- what was there stays in its place
abbrev pub Keeps : {A : Type 0} → List A → List A → Type 0
Keeps {A} old new = (k : ℕ) (x : A) → slice_get old k ≡ Some x → slice_get new k ≡ Some x
