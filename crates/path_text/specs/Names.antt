-- Names kept one after another in a buffer of bytes, with the place where each ends.
use Rattle.std.specs.Prelude.{◌≡◌, ◌≤◌, ◌-◌, ℕ, zero, suc, Bool, List, [], ◌∷◌, length, take, drop, All, None}
use Rattle.std.specs.Cmp.Lexicographic.{pointwise}
use Rattle.path_text.specs.Name.{same_bytes, name_fault}

-- the names that end at these places: each begins where the one before it ends, and the first at `start`
abbrev pub names_cut : ℕ → List ℕ → List ℕ → List (List ℕ)
names_cut start [] bytes = []
names_cut start (end ∷ ends) bytes = take (end - start) (drop start bytes) ∷ names_cut end ends bytes

-- where the name of a number begins, and the one before it ends
abbrev pub start_at : ℕ → List ℕ → ℕ → ℕ
start_at start ends zero = start
start_at start [] (suc at) = start
start_at start (end ∷ ends) (suc at) = start_at end ends at

-- the places rise from `start` on, and the last is `size`
abbrev pub RiseTo : ℕ → List ℕ → ℕ → Type 0
RiseTo start [] size = start ≡ size
RiseTo start (end ∷ ends) size = (start ≤ end) × RiseTo end ends size

-- each is a name
abbrev pub AreNames : List (List ℕ) → Type 0
AreNames names = All (λ name. name_fault name ≡ None) names

-- the two are the same names in the same order
abbrev pub same_names : List (List ℕ) → List (List ℕ) → Bool
same_names = pointwise same_bytes

-- the bytes are the names that end at these places, and nothing after the last
pub record IsNameBuffer (bytes ends : List ℕ) : Type 0 where
  pub rising : RiseTo 0 ends (length bytes)
  pub valid : AreNames (names_cut 0 ends bytes)
