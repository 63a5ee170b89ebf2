use Rattle.std.proofs.Common.{◌≡◌}
use Rattle.explore_parts.specs.Printed.{AreBytes}
use Rattle.explore_parts.proofs.part_read.bytes_of.Given as goal

abbrev pub invariant-loop-character : goal.invariant-loop-character
invariant-loop-character l = (l.out ≡ l.yielded) × AreBytes l.out
