use Rattle.std.proofs.Common.{◌≡◌, take}
use Rattle.tree_steps.proofs.tables.copy_nodes.Given as goal

abbrev pub invariant-loop-inode : goal.invariant-loop-inode
invariant-loop-inode l = l.copies.items ≡ take l.inode-index l.nodes
