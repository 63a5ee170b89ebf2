-- A text that has something in it.
use Rattle.std.proofs.Common.{◌≡◌, ◌≢◌, ℕ, List, [], ◌∷◌, ◌++◌, refl}

-- it has its first byte
pub first_byte : (line bytes : List ℕ) (b : ℕ) → line ≡ b ∷ bytes → line ≢ []
first_byte line bytes b e none = cc (e, none)

-- in its second half, or in its first
pub tail_some : (xs ys : List ℕ) → ys ≢ [] → xs ++ ys ≢ []
tail_some [] ys some e = some e
tail_some (x ∷ xs) ys some e = cc (e)

pub front_some : (xs ys : List ℕ) → xs ≢ [] → xs ++ ys ≢ []
front_some [] ys some e = some refl
front_some (x ∷ xs) ys some e = cc (e)
