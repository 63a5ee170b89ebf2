use Rattle.std.proofs.Common.{◌≡◌, take}
use Rattle.tree_list.proofs.build.are_together.Given as goal

-- the names before this one are the same
abbrev pub invariant-loop-at : goal.invariant-loop-at
invariant-loop-at l = take l.at l.names ≡ take l.at l.others
