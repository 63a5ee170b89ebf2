use Rattle.tree_slab.proofs.Started.{HasFirstEntries}
use Rattle.tree_slab.proofs.nodes.link_all.Given as goal

abbrev pub invariant-loop-number : goal.invariant-loop-number
invariant-loop-number l = HasFirstEntries l.inodes l.directories l.number
