-- The counts of the actors' open handles.
use Rattle.std.specs.Prelude.{◌≡◌, ℕ, nat_eq, count_by, List, Option, Some, None, cond, ◌+◌, slice_index_or}
use Rattle.std.specs.HashMap.{HashMap, get}
use Rattle.std.specs.Map.{count_at}
use Rattle.tree_model.specs.declared.inode.OpenHandle.{OpenHandle}
use Rattle.tree_model.specs.Steps.{is_held_by}

-- an actor's count: a low number's stands in the list, any other's in the map
abbrev pub count_in : {S : Type 0} → List ℕ → HashMap ℕ ℕ S → ℕ → ℕ
count_in low high actor = slice_index_or low actor (count_at (get nat_eq high) actor)

-- each actor's count is that of its open handles
abbrev pub IsCounted : List (Option OpenHandle) → (ℕ → ℕ) → Type 0
IsCounted handles count = (actor : ℕ) → count actor ≡ count_by (is_held_by actor) handles

-- one actor's count is another now, and all others' are as they were
abbrev pub SetsCount : (ℕ → ℕ) → (ℕ → ℕ) → ℕ → ℕ → Type 0
SetsCount old new actor count = (other : ℕ) → new other ≡ cond (nat_eq actor other) count (old other)

-- an open handle is counted for its actor
abbrev pub CountsPlace : (ℕ → ℕ) → (ℕ → ℕ) → Option OpenHandle → Type 0
CountsPlace old new None = (other : ℕ) → new other ≡ old other
CountsPlace old new (Some handle) = SetsCount old new handle.actor (old handle.actor + 1)
