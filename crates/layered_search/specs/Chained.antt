-- Places looked up by fingerprints: of each fingerprint the last place, and of each place the one before it.
use Rattle.std.specs.Prelude.{◌≡◌, ◌<◌, ℕ, List, length, Option, Some, None, slice_get}

-- it is the last of the places below n with that fingerprint
pub record IsLastAt (prints : List ℕ) (n print at : ℕ) : Type 0 where
  pub below : at < n
  pub there : slice_get prints at ≡ Some print
  pub last : (k : ℕ) → at < k → k < n → slice_get prints k ≡ Some print → ⊥

-- or there is none
abbrev pub IsLastBelow : List ℕ → ℕ → ℕ → Option ℕ → Type 0
IsLastBelow prints n print None = (k : ℕ) → k < n → slice_get prints k ≡ Some print → ⊥
IsLastBelow prints n print (Some at) = IsLastAt prints n print at

-- of each fingerprint this is the last place, and of each place the last one before it that has the same
pub record AreChained (prints : List ℕ) (befores : List (Option ℕ)) (last : ℕ → Option ℕ) : Type 0 where
  pub many : length befores ≡ length prints
  pub lasts : (print : ℕ) → IsLastBelow prints (length prints) print (last print)
  pub chains : (at print : ℕ) (before : Option ℕ) → slice_get prints at ≡ Some print
      → slice_get befores at ≡ Some before → IsLastBelow prints at print before
