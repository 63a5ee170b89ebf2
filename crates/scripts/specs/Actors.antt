-- What a script says of its first actor, over the data that its JSON text is.
use Rattle.std.specs.Prelude.{◌≡◌, ℕ, List, codes, Option, option_and_then, Result, Ok, Err}
use Rattle.serde_json.specs.Data.{Data}
use Rattle.serde_json.specs.Find.{get, get_item, as_str, as_array}
use Rattle.path_text.specs.declared.errno.Errno.{Errno}
use Rattle.tree_model.specs.declared.inode.Inode.{Inode}
use Rattle.tree_model.specs.State.{State}
use Rattle.scripts.specs.declared.fault.Cause.TheVariants.{Refused}
use Rattle.scripts.specs.declared.fault.ScriptFault.{ScriptFault}
use Rattle.scripts.specs.declared.fault.ScriptFault.TheVariants.{Actor}
use Rattle.step_resolver.specs.Driver.{IsReady}
use Rattle.path_text.specs.Print.{names_read}

abbrev pub first_actor_of : Data → Option Data
first_actor_of d = option_and_then (get_item 0) (option_and_then as_array (get (codes "actors") d))

abbrev pub root_of : Data → Option (List (List ℕ))
root_of actor = option_and_then names_read (option_and_then as_str (get (codes "root") actor))

-- the nodes of a tree, and the directory that an actor's root is
pub record RootedTree : Type 0 where
  pub nodes : List Inode
  pub root : ℕ

abbrev pub rooted : List Inode → Result ℕ Errno → Result RootedTree ScriptFault
rooted nodes (Err error) = Err (Actor 0 (Refused error))
rooted nodes (Ok r) = Ok (record { nodes = nodes; root = r })

-- ---- a root at hand

-- the tree has those nodes, and the actor holds the root by its handle, with room for a walk
pub record IsHolding (tree : RootedTree) (s : State) (a h : ℕ) : Type 0 where
  pub nodes : s.nodes ≡ tree.nodes
  pub ready : IsReady s a h tree.root

-- the tree that a script says is at hand
abbrev pub IsAtHand : Result RootedTree ScriptFault → State → ℕ → ℕ → Type 0
IsAtHand (Ok tree) s a h = IsHolding tree s a h
IsAtHand (Err fault) s a h = ⊥
