-- The state of a tree, and what is read off it: children, parents, and where a node stands (path_resolution(7)).
use Rattle.std.specs.Prelude.{◌≡◌, ◌≢◌, ℕ, zero, suc, ◌==◌, ◌&&◌, List, [], ◌∷◌, Bool, true, false, not, if◌then◌else◌, length, slice_get, Option, Some, None, is_some}
use Rattle.std.specs.List.{filter_map, list_any}
use Rattle.std.specs.Option.{option_map, option_and_then}
use Rattle.std.specs.Ordering.{nat_cmp, is_lt}
use Rattle.std.specs.Cmp.Lexicographic.{slice_cmp}
use Rattle.path_text.specs.Name.{same_bytes}
use Rattle.tree_model.specs.declared.inode.Inode.{Inode}
use Rattle.tree_model.specs.declared.inode.Object.{Object}
use Rattle.tree_model.specs.declared.inode.Object.TheVariants.{Dir, File, Link}
use Rattle.tree_model.specs.declared.inode.OpenHandle.{OpenHandle}
use Rattle.tree_model.specs.declared.inode.Place.{Place}

-- A node's number is its index, and so is a handle's, so that none is ever used twice. A closed handle is None.
pub record State : Type 0 where
  pub nodes : List Inode
  pub handles : List (Option OpenHandle)

-- the number of the top
abbrev pub TOP : ℕ
TOP = 0

-- what a node is; None where no node has the number
abbrev pub object_at : List Inode → ℕ → Option Object
object_at nodes x = option_map (λ inode. inode.object) (slice_get nodes x)

-- where a node stands; None for the top, for a node whose entry was removed, and where no node has the number
abbrev pub place_at : List Inode → ℕ → Option Place
place_at nodes x = option_and_then (λ inode. inode.place) (slice_get nodes x)

abbrev pub is_directory : Option Object → Bool
is_directory None = false
is_directory (Some Dir) = true
is_directory (Some File) = false
is_directory (Some (Link text)) = false

abbrev pub is_dir : List Inode → ℕ → Bool
is_dir nodes x = is_directory (object_at nodes x)

-- a node other than the top that stands nowhere
abbrev pub is_gone : List Inode → ℕ → Bool
is_gone nodes x = not (x == TOP) && not (is_some (place_at nodes x))

-- the place is the entry of that name in that directory
abbrev pub is_at : ℕ → List ℕ → Option Place → Bool
is_at d n None = false
is_at d n (Some place) = (place.parent == d) && same_bytes place.name n

-- the number of the first node, counted from k, that stands at that entry
abbrev pub child_from : ℕ → List Inode → ℕ → List ℕ → Option ℕ
child_from k [] d n = None
child_from k (inode ∷ nodes) d n = if is_at d n inode.place then Some k else child_from (suc k) nodes d n

-- the node at the entry of that name in that directory
abbrev pub child : List Inode → ℕ → List ℕ → Option ℕ
child nodes d n = child_from 0 nodes d n

-- the directory in which a node stands; the top is its own parent
abbrev pub parent : List Inode → ℕ → Option ℕ
parent nodes x = if x == TOP then Some TOP else option_map (λ place. place.parent) (place_at nodes x)

-- x stands below r at these names, the innermost first: it is r and there is none, or it stands in a directory that
-- does
abbrev pub Stands : List Inode → ℕ → ℕ → List (List ℕ) → Type 0
Stands nodes r x [] = x ≡ r
Stands nodes r x (n ∷ names) = (x ≢ r)
    × ((d : ℕ) × ((place_at nodes x ≡ Some (record { parent = d; name = n })) × Stands nodes r d names))

-- the names, the innermost first, at which x is found below r by that many parents at most
abbrev pub names_within : ℕ → List Inode → ℕ → ℕ → Option (List (List ℕ))
names_within zero nodes r x = if x == r then Some [] else None
names_within (suc parents) nodes r x =
    if x == r then Some []
    else option_and_then
    (λ place. option_map (λ names. place.name ∷ names) (names_within parents nodes r place.parent))
    (place_at nodes x)

-- the names, the innermost first, at which x stands below r
abbrev pub names_below : List Inode → ℕ → ℕ → Option (List (List ℕ))
names_below nodes r x = names_within (length nodes) nodes r x

-- x is r or stands below it
abbrev pub is_within : List Inode → ℕ → ℕ → Bool
is_within nodes r x = is_some (names_below nodes r x)

-- the name of an entry of that directory
abbrev pub name_in : ℕ → Option Place → Option (List ℕ)
name_in d None = None
name_in d (Some place) = if place.parent == d then Some place.name else None

-- the names of a directory's entries, as the nodes are numbered
abbrev pub names_in : List Inode → ℕ → List (List ℕ)
names_in nodes d = filter_map (λ inode. name_in d inode.place) nodes

abbrev pub has_entries : List Inode → ℕ → Bool
has_entries nodes d = list_any (λ inode. is_some (name_in d inode.place)) nodes

-- a name put in order among sorted ones
abbrev pub insert_name : List ℕ → List (List ℕ) → List (List ℕ)
insert_name n [] = n ∷ []
insert_name n (m ∷ names) = if is_lt (slice_cmp nat_cmp n m) then n ∷ m ∷ names else m ∷ insert_name n names

-- names by their bytes
abbrev pub sorted_names : List (List ℕ) → List (List ℕ)
sorted_names [] = []
sorted_names (n ∷ names) = insert_name n (sorted_names names)

-- a node given another place, if there is such a node
abbrev pub at_place : Option Place → Inode → Inode
at_place place inode = record { object = inode.object; place = place }

abbrev pub put_at : List Inode → ℕ → Option Place → List Inode
put_at [] x place = []
put_at (inode ∷ nodes) zero place = at_place place inode ∷ nodes
put_at (inode ∷ nodes) (suc x) place = inode ∷ put_at nodes x place
