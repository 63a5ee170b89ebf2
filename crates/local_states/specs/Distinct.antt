-- Lists in which nothing stands twice, and what stays in its place.
use Rattle.std.specs.Prelude.{◌≡◌, ℕ, List, Some, slice_get}
pub use Rattle.layered_search.specs.Distinct.{Keeps}

-- no two places have the same
abbrev pub AreEachOnce : {A : Type 0} → List A → Type 0
AreEachOnce {A} xs = (k l : ℕ) (x : A) → slice_get xs k ≡ Some x → slice_get xs l ≡ Some x → k ≡ l
