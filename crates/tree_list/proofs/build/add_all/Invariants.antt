use Rattle.std.proofs.Common.{◌≡◌, ◌-◌, Ok, Some, IfSome, slice_get, drop, take}
use Rattle.tree_list.specs.Build.{adds_all, StandsIn}
use Rattle.tree_list.specs.declared.build.Entry.{Entry}
use Rattle.tree_list.proofs.build.add_all.Given as goal

-- The entries before this one are added, and with those that are left they make the whole. If a parent is known, the
-- entry before this one stands below it.
abbrev pub invariant-loop-at : goal.invariant-loop-at
invariant-loop-at g l =
    let inodes = g.N.GrowingNodes.inodes in
    (adds_all l.at (inodes l.nodes) (drop l.at l.entries) ≡ adds_all 0 (inodes l.fn.nodes) l.entries)
    × (adds_all 0 (inodes l.fn.nodes) (take l.at l.entries) ≡ Ok (inodes l.nodes))
    × ((before : Entry) → slice_get l.entries (l.at - 1) ≡ Some before → IfSome l.known (StandsIn (inodes l.nodes) before.at))
