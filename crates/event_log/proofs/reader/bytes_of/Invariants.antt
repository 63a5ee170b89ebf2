use Rattle.std.proofs.Common.{length}
use Rattle.event_log.proofs.reader.bytes_of.Given as goal

abbrev pub decreases-loop-left : goal.decreases-loop-left
decreases-loop-left l = length l.left
