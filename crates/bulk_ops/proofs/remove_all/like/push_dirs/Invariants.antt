use Rattle.std.proofs.Common.{◌≡◌, ◌++◌, take}
use Rattle.bulk_ops.specs.RemoveAllView.{dirs_of}
use Rattle.bulk_ops.proofs.remove_all.like.push_dirs.Given as goal

abbrev pub invariant-loop-below : goal.invariant-loop-below
invariant-loop-below l = l.into.items ≡ l.initial.into.items ++ take l.below (dirs_of l.frames)
