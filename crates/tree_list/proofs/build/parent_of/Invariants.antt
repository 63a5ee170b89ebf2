use Rattle.std.proofs.Common.{◌≡◌, drop}
use Rattle.tree_model.specs.State.{TOP}
use Rattle.tree_list.specs.Build.{node_at, way}
use Rattle.tree_list.proofs.build.parent_of.Given as goal

-- what the names that are left lead to is what all lead to
abbrev pub invariant-loop-step : goal.invariant-loop-step
invariant-loop-step g l =
    let inodes = g.N.GrowingNodes.inodes in
    node_at (inodes l.nodes) l.parent (drop l.step (way l.names)) ≡ node_at (inodes l.nodes) TOP (way l.names)
