-- What going up from a node tells of the names at which it stands below another.
use Rattle.std.specs.Prelude.{◌≡◌, ℕ, ◌+◌, List, ◌++◌, reverse, Some, None}
use Rattle.std.specs.Option.{option_map}
use Rattle.tree_model.specs.declared.inode.Inode.{Inode}
use Rattle.tree_model.specs.State.{names_within}
use Rattle.tree_steps.specs.declared.below.Found.{Found}
use Rattle.tree_steps.specs.declared.below.Found.TheVariants.{Below, Apart, Higher}

-- however many parents more are gone up: the names were added, the outermost first; or there are none
abbrev pub Tells : Found → ℕ → List Inode → ℕ → ℕ → List (List ℕ) → List (List ℕ) → Type 0
Tells Below depth nodes top x old new =
    (more : ℕ) → option_map (λ names. old ++ reverse names) (names_within (depth + more) nodes top x) ≡ Some new
Tells Apart depth nodes top x old new = (more : ℕ) → names_within (depth + more) nodes top x ≡ None
Tells Higher depth nodes top x old new = Unit {0}
