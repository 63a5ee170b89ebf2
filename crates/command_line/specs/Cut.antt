-- The words of a line, and the lines of a text.
use Rattle.std.specs.Prelude.{ℕ, zero, suc, ◌==◌, ◌||◌, List, [], ◌∷◌, Bool, false, nat_eq, if◌then◌else◌}
use Rattle.std.specs.List.{starts_with}

-- what stands before the first mark
abbrev pub front : ℕ → List ℕ → List ℕ
front mark [] = []
front mark (b ∷ bs) = if b == mark then [] else b ∷ front mark bs

-- what stands behind the first mark
abbrev pub behind : ℕ → List ℕ → List ℕ
behind mark [] = []
behind mark (b ∷ bs) = if b == mark then bs else behind mark bs

abbrev pub NEWLINE : ℕ
NEWLINE = 10

-- what stands behind so many lines
abbrev pub lines_behind : ℕ → List ℕ → List ℕ
lines_behind zero bs = bs
lines_behind (suc n) bs = lines_behind n (behind NEWLINE bs)

-- a part stands somewhere in a text, and the empty one in each text that isn't
abbrev pub is_within : List ℕ → List ℕ → Bool
is_within part [] = false
is_within part (b ∷ bs) = starts_with nat_eq (b ∷ bs) part || is_within part bs
