use Rattle.std.proofs.Common.{take}
use Rattle.tree_slab.specs.Counts.{IsCounted, count_in}
use Rattle.tree_slab.proofs.handles.counts_of.Given as goal

-- the handles so far are counted
abbrev pub invariant-loop-place : goal.invariant-loop-place
invariant-loop-place l = IsCounted (take l.place-index l.places) (count_in l.counts.low l.counts.high)
