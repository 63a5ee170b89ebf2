-- Two lists of handles side by side.
use Rattle.std.specs.Prelude.{◌≡◌, ◌<◌, ℕ, List, [], ◌∷◌, ◌==◌, ◌&&◌, ◌||◌, false, Some, slice_get}
use Rattle.local_states.specs.Alike.{Pairs}

-- the handle of the one list is that of the other at the same place
abbrev pub pairs_of : List ℕ → List ℕ → Pairs
pairs_of [] ks h k = false
pairs_of (i ∷ hs) [] h k = false
pairs_of (i ∷ hs) (j ∷ ks) h k = ((i == h) && (j == k)) || pairs_of hs ks h k

-- they are the two lists' at that place
pub record AreAt (hs ks : List ℕ) (at h k : ℕ) : Type 0 where
  pub here : slice_get hs at ≡ Some h
  pub there : slice_get ks at ≡ Some k

-- two pairs are the same on both sides or on neither
abbrev pub AreApart : ℕ → ℕ → ℕ → ℕ → Type 0
AreApart h k j l = (h ≡ j → k ≡ l) × (k ≡ l → h ≡ j)

-- so is the pair at that place with each before
abbrev pub IsApartBefore : List ℕ → List ℕ → ℕ → ℕ → ℕ → Type 0
IsApartBefore hs ks h k n = (at j l : ℕ) → at < n → AreAt hs ks at j l → AreApart h k j l
