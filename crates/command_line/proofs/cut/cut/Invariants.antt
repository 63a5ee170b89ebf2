use Rattle.std.proofs.Common.{◌≡◌, ◌++◌, take, drop}
use Rattle.command_line.specs.Cut.{front, behind}
use Rattle.command_line.proofs.cut.cut.Given as goal

-- what was passed over has no mark
abbrev pub invariant-loop-at : goal.invariant-loop-at
invariant-loop-at l = record {
  front : take l.at l.text ++ front l.mark (drop l.at l.text) ≡ front l.mark l.text;
  behind : behind l.mark (drop l.at l.text) ≡ behind l.mark l.text;
}
