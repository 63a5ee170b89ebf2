use Rattle.tree_slab.proofs.Started.{HasFirstMaps}
use Rattle.tree_slab.proofs.nodes.empty_maps.Given as goal

abbrev pub invariant-loop-number : goal.invariant-loop-number
invariant-loop-number l = HasFirstMaps l.inodes l.directories l.number
