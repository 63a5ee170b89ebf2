-- The states of a layer, looked up by the numbers of their keys: which have one key, and which are new ones.
use Rattle.std.specs.Prelude.{◌≡◌, ◌<◌, ℕ, List, Bool, true, false, map, Some, slice_get}
use Rattle.layered_search.specs.declared.frontier.layer.Visited.{Visited}
use Rattle.layered_search.specs.System.{Keys}

-- it is the state of that key to which these turns led
pub record IsPut {Key : Type 0} (key : Key) (turns : List ℕ) (one : Visited Key) : Type 0 where
  pub key_is : one.key ≡ key
  pub turns_are : one.turns.items ≡ turns

module _ {State Memory Key : Type 0} (k : Keys State Memory Key) where
  -- ---- states at places

  -- the state at that place has that key
  abbrev pub IsSameAt : Key → List (Visited Key) → ℕ → Type 0
  IsSameAt key visited at = (other : Visited Key) × ((slice_get visited at ≡ Some other) × k.AreSame key other.key)

  -- none before a state has its key
  abbrev pub AreMerged : List (Visited Key) → Type 0
  AreMerged visited = (m at : ℕ) (one : Visited Key) → slice_get visited m ≡ Some one → at < m
      → IsSameAt one.key visited at → ⊥

  -- its key counts as one with that
  abbrev pub IsOneAt : Key → List (Visited Key) → ℕ → Type 0
  IsOneAt key visited at =
      (other : Visited Key) × ((slice_get visited at ≡ Some other) × k.CountAsOne key other.key)

  -- ---- states that are counted

  -- whether that key counts as one with none of the first n states
  abbrev pub IsNew : Bool → List (Visited Key) → ℕ → Key → Type 0
  IsNew true visited n key = (at : ℕ) → at < n → IsOneAt key visited at → ⊥
  IsNew false visited n key = (at : ℕ) × ((at < n) × IsOneAt key visited at)

  -- each state is a new one where its key counts as one with none before it
  abbrev pub AreMarked : List (Visited Key) → Type 0
  AreMarked visited = (m : ℕ) (one : Visited Key) → slice_get visited m ≡ Some one
      → IsNew one.is_new visited m one.key

  -- ---- looked up

  abbrev pub prints_of : List (Visited Key) → List ℕ
  prints_of visited = map (λ (one : Visited Key). k.print_of one.key) visited

  -- a table has the numbers of their keys; no two of the states have one key, and they are marked
  pub record AreLookedUp (visited : List (Visited Key)) (table : List ℕ) : Type 0 where
    pub prints : table ≡ prints_of visited
    pub merged : AreMerged visited
    pub markings : AreMarked visited
