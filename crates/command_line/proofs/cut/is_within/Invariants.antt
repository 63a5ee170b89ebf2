use Rattle.std.proofs.Common.{◌≡◌, drop}
use Rattle.command_line.specs.Cut.{is_within}
use Rattle.command_line.proofs.cut.is_within.Given as goal

-- what is left decides
abbrev pub invariant-loop-at : goal.invariant-loop-at
invariant-loop-at l = is_within l.part (drop l.at l.text) ≡ is_within l.part l.text
