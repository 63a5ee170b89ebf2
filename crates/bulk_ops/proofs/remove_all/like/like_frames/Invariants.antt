use Rattle.std.proofs.Common.{◌≡◌, take}
use Rattle.std.specs.Prelude.{map}
use Rattle.bulk_ops.proofs.LikeFrames.{level_alone}
use Rattle.bulk_ops.proofs.remove_all.like.like_frames.Given as goal

abbrev pub invariant-loop-place : goal.invariant-loop-place
invariant-loop-place l = map level_alone (take l.place l.frames) ≡ map level_alone (take l.place l.others)
