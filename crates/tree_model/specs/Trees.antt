-- When a state is a tree.
use Rattle.std.specs.Prelude.{◌≡◌, ℕ, ◌<◌, List, true, length, slice_get, Some, None}
use Rattle.path_text.specs.Text.{text_fault}
use Rattle.tree_model.specs.declared.inode.Inode.{Inode}
use Rattle.tree_model.specs.declared.inode.Object.{Object}
use Rattle.tree_model.specs.declared.inode.Object.TheVariants.{Dir, Link}
use Rattle.tree_model.specs.declared.inode.OpenHandle.{OpenHandle}
use Rattle.tree_model.specs.declared.inode.Place.{Place}
use Rattle.tree_model.specs.State.{State, TOP, object_at, place_at, is_dir}

-- x is the top, or stands in a directory that leads up to it: no node is its own ancestor
pub data Rooted (nodes : List Inode) : ℕ → Type 0 where
  top : Rooted nodes TOP
  below : {x : ℕ} (place : Place) → place_at nodes x ≡ Some place → Rooted nodes place.parent → Rooted nodes x

-- where it is a link, its text is one of a path
abbrev pub HasPathText : Object → Type 0
HasPathText object = (text : List ℕ) → object ≡ Link text → text_fault text ≡ None

-- The top is a directory without a place. Each entry is in a directory and leads up to the top, and no two nodes
-- have one entry. A link's text is one of a path.
pub record IsTree (nodes : List Inode) : Type 0 where
  pub top_is_dir : object_at nodes TOP ≡ Some Dir
  pub top_is_free : place_at nodes TOP ≡ None
  pub parents_are_dirs : (x : ℕ) (place : Place) → place_at nodes x ≡ Some place → is_dir nodes place.parent ≡ true
  pub rooted : (x : ℕ) (place : Place) → place_at nodes x ≡ Some place → Rooted nodes x
  pub apart : (x y : ℕ) (place : Place) → place_at nodes x ≡ Some place → place_at nodes y ≡ Some place → x ≡ y
  pub links_have_texts : (x : ℕ) (text : List ℕ) → object_at nodes x ≡ Some (Link text) → text_fault text ≡ None

-- a tree, and each open handle is on one of its nodes
pub record IsState (s : State) : Type 0 where
  pub tree : IsTree s.nodes
  pub handles : (h : ℕ) (open_handle : OpenHandle) → slice_get s.handles h ≡ Some (Some open_handle)
      → open_handle.node < length s.nodes
