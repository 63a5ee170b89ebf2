-- When the directories' maps are an index of a tree's nodes.
use Rattle.std.specs.Prelude.{◌≡◌, ℕ, ◌&&◌, not, List, Bool, true, length, Option, Some, None}
use Rattle.tree_model.specs.declared.inode.Inode.{Inode}
use Rattle.tree_model.specs.declared.inode.Place.{Place}
use Rattle.tree_model.specs.State.{place_at, is_dir, is_gone}
use Rattle.tree_model.specs.Trees.{IsTree}
use Rattle.tree_slab.specs.Directories.{entry_in, has_map, SetsEntry}

-- a directory that is the top or stands somewhere
abbrev pub is_standing_dir : List Inode → ℕ → Bool
is_standing_dir nodes x = is_dir nodes x && not (is_gone nodes x)

-- a look-up leads to a node exactly where the node stands at that entry
pub record Agrees (look : ℕ → List ℕ → Option ℕ) (nodes : List Inode) : Type 0 where
  pub found : (d : ℕ) (n : List ℕ) (x : ℕ) → look d n ≡ Some x
      → place_at nodes x ≡ Some (record { parent = d; name = n })
  pub kept : (d : ℕ) (n : List ℕ) (x : ℕ) → place_at nodes x ≡ Some (record { parent = d; name = n })
      → look d n ≡ Some x

-- the nodes are a tree, each map has exactly its directory's entries, and exactly the standing directories have one
pub record IsIndexed (nodes : List Inode) (directories : List (Option (List (List ℕ × ℕ)))) : Type 0 where
  pub tree : IsTree nodes
  pub entries : Agrees (entry_in directories) nodes
  pub maps : (x : ℕ) → has_map directories x ≡ is_standing_dir nodes x
  pub count : length directories ≡ length nodes

-- each standing directory has a map, and no map has an entry
pub record HasEmptyMaps (nodes : List Inode) (directories : List (Option (List (List ℕ × ℕ)))) : Type 0 where
  pub entries : (d : ℕ) (n : List ℕ) → entry_in directories d n ≡ None
  pub maps : (x : ℕ) → has_map directories x ≡ is_standing_dir nodes x
  pub count : length directories ≡ length nodes

-- the directory of a place has a map
abbrev pub HasParentMap : List (Option (List (List ℕ × ℕ))) → Option Place → Type 0
HasParentMap directories None = Unit {0}
HasParentMap directories (Some place) = has_map directories place.parent ≡ true

-- a node's entry leads to it, if it has one
abbrev pub Links : List (Option (List (List ℕ × ℕ))) → List (Option (List (List ℕ × ℕ))) → Option Place → ℕ → Type 0
Links old new None x = new ≡ old
Links old new (Some place) x = SetsEntry old new place.parent place.name (Some x)
