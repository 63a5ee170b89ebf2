-- When what is remembered of the directories' entries is true.
use Rattle.std.specs.Prelude.{◌≡◌, ℕ, List, Option, Some}
use Rattle.tree_slab.specs.Cache.{Cache, found}
use Rattle.tree_slab.specs.Directories.{entry_in}

-- what is remembered of an entry, a missing one too, is what its directory has
abbrev pub IsTrueOf : Cache → List (Option (List (List ℕ × ℕ))) → Type 0
IsTrueOf cache directories =
    (d : ℕ) (n : List ℕ) (x : Option ℕ) → found cache d n ≡ Some x → entry_in directories d n ≡ x
