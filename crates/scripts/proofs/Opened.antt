-- What a script says, once its checks have passed.
use Rattle.std.proofs.Common.{◌≡◌, ℕ, List, refl}
use Rattle.std.specs.Prelude.{codes, Some, option_and_then, Ok}
use Rattle.serde_json.specs.Data.{Data, Items}
use Rattle.serde_json.specs.Find.{get, as_array}
use Rattle.tree_model.specs.declared.inode.Inode.{Inode}
use Rattle.tree_model.specs.State.{TOP}
use Rattle.tree_model.specs.Steps.{directory_at}
use Rattle.scripts.specs.declared.calls.Version.{Version}
use Rattle.scripts.specs.Actors.{first_actor_of, root_of, rooted}
use Rattle.scripts.specs.Script.{rooted_tree_of}
use Rattle.scripts.specs.Version.{version_of}
use Rattle.scripts.specs.Tree.{tree_of}

-- each check has passed
pub record IsSaid (d : Data) (nodes : List Inode) (names : List (List ℕ)) : Type 0 where
  pub items : Items
  pub actor : Data
  pub version : Version
  pub head : version_of d ≡ Ok version
  pub entries : option_and_then as_array (get (codes "tree") d) ≡ Some items
  pub tree : tree_of items ≡ Ok nodes
  pub first : first_actor_of d ≡ Some actor
  pub root : root_of actor ≡ Some names

pub root_said : (d : Data) (nodes : List Inode) (names : List (List ℕ)) → IsSaid d nodes names → rooted_tree_of d ≡ rooted nodes (directory_at nodes TOP names)
root_said d nodes names said = rw (said.head, said.entries, said.tree, said.first, said.root) refl
