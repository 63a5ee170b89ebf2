use Rattle.std.proofs.Common.{◌≡◌, ◌≤◌, ◌+◌, ◌-◌, length, map, take, vec_len, vec_capacity}
use Rattle.bulk_ops.specs.RemoveAllView.{level_of}
use Rattle.bulk_ops.proofs.remove_all.copy.copy_frames.Given as goal

-- the first so many are copied, and there is room for the others
abbrev pub invariant-loop-frame : goal.invariant-loop-frame
invariant-loop-frame l = record {
  same : map level_of l.copies.items ≡ map level_of (take l.frame-index l.frames);
  room : vec_len l.copies + (length l.frames - l.frame-index) ≤ vec_capacity l.copies;
}
