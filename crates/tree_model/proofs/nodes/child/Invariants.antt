use Rattle.std.proofs.Common.{◌≡◌, drop}
use Rattle.tree_model.specs.State.{child_from}
use Rattle.tree_model.proofs.nodes.child.Given as goal

-- the search through the nodes that are left is the search through all
abbrev pub invariant-loop-number : goal.invariant-loop-number
invariant-loop-number l = child_from l.number (drop l.number l.nodes) l.dir l.name ≡ child_from 0 l.nodes l.dir l.name
