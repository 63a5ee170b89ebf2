use Rattle.std.proofs.Common.{vec_len}
use Rattle.bulk_ops.proofs.remove_all.copy.forget.Given as goal

abbrev pub decreases-loop-frame : goal.decreases-loop-frame
decreases-loop-frame l = vec_len l.frames
