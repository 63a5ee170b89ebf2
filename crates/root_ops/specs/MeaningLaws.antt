-- What holds of every operation's meaning: statements of laws.
use Rattle.std.specs.Prelude.{◌≡◌, ℕ, suc, ◌≤◌, length, false, Some}
use Rattle.path_text.specs.declared.errno.Errno.{Errno}
use Rattle.tree_model.specs.declared.inode.Object.{Object}
use Rattle.tree_model.specs.State.{object_at}
use Rattle.tree_model.specs.Trees.{IsTree}
use Rattle.root_ops.specs.declared.op.Op.{Op}
use Rattle.root_ops.specs.StepCount.{is_bulk}
use Rattle.root_ops.specs.Meaning.{Caller, fails, op_means}

-- it leads from a tree to a tree: no entry is in what is no directory, no two nodes have one entry, and none is its
-- own ancestor
abbrev pub OperationsKeepTrees : Type 0
OperationsKeepTrees = (c : Caller) (op : Op) → IsTree c.tree.nodes → IsTree (op_means c op).nodes

-- no node is lost, each stays what it is, and there is one more at most, if it is no bulk call
abbrev pub OperationsKeepNodes : Type 0
OperationsKeepNodes = (c : Caller) (op : Op)
    → ((x : ℕ) (object : Object) → object_at c.tree.nodes x ≡ Some object
    → object_at (op_means c op).nodes x ≡ Some object)
    × (is_bulk op ≡ false → length (op_means c op).nodes ≤ suc (length c.tree.nodes))

-- an error changes no node
abbrev pub ErrorsChangeNothing : Type 0
ErrorsChangeNothing = (c : Caller) (op : Op) (error : Errno) → (op_means c op).reply ≡ fails error
    → (op_means c op).nodes ≡ c.tree.nodes
