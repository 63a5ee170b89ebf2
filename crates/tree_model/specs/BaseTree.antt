-- A small tree with each kind of node, on which definitions can be tried out:
--     /c (1), /c/a (2), /c/a/b (3), the file /c/a/b/f (4), the links /c/abs (5), /c/up (6), /c/loop (7) and
--     /c/dang (8), /secret (9), the file /secret/key (10)
use Rattle.std.specs.Prelude.{ℕ, List, [], ◌∷◌, Option, Some, None, codes}
use Rattle.tree_model.specs.declared.inode.Inode.{Inode}
use Rattle.tree_model.specs.declared.inode.Object.{Object}
use Rattle.tree_model.specs.declared.inode.Object.TheVariants.{Dir, File, Link}
use Rattle.tree_model.specs.declared.inode.OpenHandle.{OpenHandle}
use Rattle.tree_model.specs.State.{State}

-- a node that stands in that directory at that name
abbrev pub standing : Object → ℕ → List ℕ → Inode
standing object d n = record { object = object; place = Some (record { parent = d; name = n }) }

abbrev pub base_nodes : List Inode
base_nodes =
    record { object = Dir; place = None }
    ∷ standing Dir 0 (codes "c")
    ∷ standing Dir 1 (codes "a")
    ∷ standing Dir 2 (codes "b")
    ∷ standing File 3 (codes "f")
    ∷ standing (Link (codes "/a/b")) 1 (codes "abs")
    ∷ standing (Link (codes "../../a")) 1 (codes "up")
    ∷ standing (Link (codes "loop")) 1 (codes "loop")
    ∷ standing (Link (codes "none/x")) 1 (codes "dang")
    ∷ standing Dir 0 (codes "secret")
    ∷ standing File 9 (codes "key")
    ∷ []

-- no handle is open
abbrev pub base_tree : State
base_tree = record { nodes = base_nodes; handles = [] }

-- each of these nodes is open to the actor, under the handles 0, 1, and so on
abbrev pub opened_on : ℕ → List ℕ → List (Option OpenHandle)
opened_on a [] = []
opened_on a (x ∷ xs) = Some (record { actor = a; node = x }) ∷ opened_on a xs

-- the tree with such handles
abbrev pub base_opened : ℕ → List ℕ → State
base_opened a xs = record { nodes = base_nodes; handles = opened_on a xs }
