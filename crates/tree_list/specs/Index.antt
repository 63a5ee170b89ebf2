-- An index of a tree's entries: for each node a map from the names of its entries to the nodes that stand there.
use Rattle.std.specs.Prelude.{◌≡◌, ℕ, cond, List, length, slice_get, Option, Some}
use Rattle.std.specs.Option.{option_and_then}
use Rattle.std.specs.BTreeMap.{BTreeMap, get_by}
use Rattle.std.specs.Cmp.Lexicographic.{slice_cmp}
use Rattle.std.specs.Ordering.{nat_cmp}
use Rattle.std.specs.Global.{Vec}
use Rattle.tree_model.specs.declared.inode.Inode.{Inode}
use Rattle.tree_model.specs.declared.inode.Place.{Place}
use Rattle.tree_model.specs.State.{child, is_at}

-- the node at a name of a directory
abbrev pub node_in : List (BTreeMap (Vec ℕ) ℕ) → ℕ → List ℕ → Option ℕ
node_in index d n = option_and_then (get_by (λ key. slice_cmp nat_cmp n key.items)) (slice_get index d)

-- one entry leads to a node, and each other to what it led to
pub record PutsNode (old new : List (BTreeMap (Vec ℕ) ℕ)) (place : Place) (x : ℕ) : Type 0 where
  pub nodes : (d : ℕ) (n : List ℕ) → node_in new d n ≡ cond (is_at d n (Some place)) (Some x) (node_in old d n)
  pub count : length new ≡ length old

-- each entry leads to what it led to
pub record IsSameIndex (old new : List (BTreeMap (Vec ℕ) ℕ)) : Type 0 where
  pub nodes : (d : ℕ) (n : List ℕ) → node_in new d n ≡ node_in old d n
  pub count : length new ≡ length old

-- at each entry is the node that is found there among the nodes, each of which has a map
pub record IsIndexOf (nodes : List Inode) (index : List (BTreeMap (Vec ℕ) ℕ)) : Type 0 where
  pub found : (d : ℕ) (n : List ℕ) → node_in index d n ≡ child nodes d n
  pub count : length index ≡ length nodes
