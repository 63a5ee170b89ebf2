use Rattle.std.proofs.Common.{◌≡◌, ◌++◌, drop}
use Rattle.tree_model.specs.State.{names_in}
use Rattle.tree_list.proofs.read.names_in.Given as goal

-- the names so far, and those of the nodes that are left, are all
abbrev pub invariant-loop-inode : goal.invariant-loop-inode
invariant-loop-inode l = l.names.items ++ names_in (drop l.inode-index l.nodes) l.dir ≡ names_in l.nodes l.dir
