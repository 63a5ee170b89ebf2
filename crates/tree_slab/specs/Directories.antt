-- The entries of the directories that stand, each directory's by the bytes of their names: for each node the entries
-- of its map, if it has one.
use Rattle.std.specs.Prelude.{◌≡◌, ◌≢◌, ℕ, suc, ◌==◌, ◌&&◌, List, [], Bool, cond, if◌then◌else◌, length, slice_index_or, Option, Some, None, is_some, IsSome, true, false, MatchOption}
use Rattle.std.specs.Option.{option_and_then}
use Rattle.std.specs.Ordering.{nat_cmp}
use Rattle.std.specs.Cmp.Lexicographic.{slice_cmp}
use Rattle.std.specs.Map.{lookup, keys_of}
use Rattle.std.specs.BTreeMap.{is_at}
use Rattle.slab.specs.Slab.{Slab, get, HasRoomFor}

-- the two names are one
abbrev pub is_name : List ℕ → List ℕ → Bool
is_name n m = is_at (slice_cmp nat_cmp n) m

-- one entry of a map leads elsewhere, or nowhere
abbrev pub ChangesEntry : List (List ℕ × ℕ) → List (List ℕ × ℕ) → List ℕ → Option ℕ → Type 0
ChangesEntry old new n x = (m : List ℕ) → lookup (is_name m) new ≡ cond (is_name n m) x (lookup (is_name m) old)

-- ---- by the numbers of the nodes

-- the entries of a directory that has a map
abbrev pub entries_at : List (Option (List (List ℕ × ℕ))) → ℕ → Option (List (List ℕ × ℕ))
entries_at directories d = slice_index_or directories d None

abbrev pub has_map : List (Option (List (List ℕ × ℕ))) → ℕ → Bool
has_map directories d = is_some (entries_at directories d)

-- the node to which a directory's entry of that name leads
abbrev pub entry_in : List (Option (List (List ℕ × ℕ))) → ℕ → List ℕ → Option ℕ
entry_in directories d n = option_and_then (λ entries. lookup (is_name n) entries) (entries_at directories d)

-- the look-up with something else at one entry
abbrev pub with_entry : (ℕ → List ℕ → Option ℕ) → ℕ → List ℕ → Option ℕ → ℕ → List ℕ → Option ℕ
with_entry look d n x f m = if f == d && is_name n m then x else look f m

-- one entry leads elsewhere, or nowhere, and all else is as it was
pub record SetsEntry (old new : List (Option (List (List ℕ × ℕ)))) (d : ℕ) (n : List ℕ) (x : Option ℕ) : Type 0 where
  pub entries : (f : ℕ) (m : List ℕ) → entry_in new f m ≡ with_entry (entry_in old) d n x f m
  pub maps : (f : ℕ) → has_map new f ≡ has_map old f
  pub count : length new ≡ length old

-- one node more, with a map or without, at an entry that led nowhere
pub record AddsNode (old new : List (Option (List (List ℕ × ℕ)))) (d : ℕ) (n : List ℕ) (mapped : Bool) : Type 0 where
  pub entries : (f : ℕ) (m : List ℕ) → entry_in new f m ≡ with_entry (entry_in old) d n (Some (length old)) f m
  pub maps : (f : ℕ) → has_map new f ≡ (if f == length old then mapped else has_map old f)
  pub count : length new ≡ suc (length old)

-- a directory without entries has its map no more
pub record LosesMap (old new : List (Option (List (List ℕ × ℕ)))) (d : ℕ) : Type 0 where
  pub entries : (f : ℕ) → entries_at new f ≡ (if f == d then None else entries_at old f)
  pub count : length new ≡ length old

-- the names of a directory's entries
abbrev pub names_at : List (Option (List (List ℕ × ℕ))) → ℕ → List (List ℕ)
names_at directories d = names_of (entries_at directories d)
  where
    names_of : Option (List (List ℕ × ℕ)) → List (List ℕ)
    names_of None = []
    names_of (Some entries) = keys_of entries

-- the entries of a map that was made for a node
abbrev pub new_entries : Bool → Option (List (List ℕ × ℕ))
new_entries mapped = if mapped then Some [] else None

-- ---- by the keys of the maps

-- the key of a node's map
abbrev pub key_at : List (Option ℕ) → ℕ → Option ℕ
key_at keys x = slice_index_or keys x None

-- the entries of the map of that key
abbrev pub entries_of : Slab (List (List ℕ × ℕ)) → Option ℕ → Option (List (List ℕ × ℕ))
entries_of maps None = None
entries_of maps (Some key) = get maps key

-- each key is that of a map, no two nodes have one map, and there is no other map
pub record HasEachMap (keys : List (Option ℕ)) (maps : Slab (List (List ℕ × ℕ))) : Type 0 where
  pub there : (x key : ℕ) → key_at keys x ≡ Some key → IsSome (get maps key)
  pub apart : (x y key : ℕ) → key_at keys x ≡ Some key → key_at keys y ≡ Some key → x ≡ y
  pub used : (key : ℕ) → IsSome (get maps key) → (x : ℕ) × (key_at keys x ≡ Some key)

-- the node to which the entry of that name in the map of that key leads
abbrev pub found_in : Slab (List (List ℕ × ℕ)) → ℕ → List ℕ → Option ℕ
found_in maps key n = option_and_then (λ entries. lookup (is_name n) entries) (entries_of maps (Some key))

-- one entry of the map of that key leads elsewhere, or nowhere
pub record ChangesMap (old new : Slab (List (List ℕ × ℕ))) (key : ℕ) (n : List ℕ) (x : Option ℕ) : Type 0 where
  pub entries : (k : ℕ) (m : List ℕ) → found_in new k m ≡ with_entry (found_in old) key n x k m
  pub maps : (k : ℕ) → is_some (get new k) ≡ is_some (get old k)
  pub room : HasRoomFor old 1 → HasRoomFor new 1

-- the maps have the entries that they had
pub record SameMaps (old new : Slab (List (List ℕ × ℕ))) : Type 0 where
  pub entries : (key : Option ℕ) → entries_of new key ≡ entries_of old key
  pub maps : (k : ℕ) → is_some (get new k) ≡ is_some (get old k)

-- a map without entries of a new key
pub record IsNewMap (old new : Slab (List (List ℕ × ℕ))) (key : ℕ) : Type 0 where
  pub free : get old key ≡ None
  pub empty : entries_of new (Some key) ≡ Some []
  pub others : (k : ℕ) → k ≢ key → get new k ≡ get old k

-- a map of a new key where it is wanted
abbrev pub AddsMap : Bool → Slab (List (List ℕ × ℕ)) → Slab (List (List ℕ × ℕ)) → Option ℕ → Type 0
AddsMap mapped old new key =
    MatchOption key ((mapped ≡ false) × (new ≡ old)) (λ k. (mapped ≡ true) × IsNewMap old new k)
