use Rattle.std.proofs.Common.{◌≡◌, ◌≤◌, ◌+◌, drop}
use Rattle.command_line.specs.Position.{line_column}
use Rattle.command_line.proofs.position.line_column.Given as goal

-- no line and no column is counted past the bytes that were passed over
abbrev pub invariant-loop-byte : goal.invariant-loop-byte
invariant-loop-byte l = record {
  line : l.line ≤ l.byte-index + 1;
  column : l.column ≤ l.byte-index + 1;
  same : line_column l.line l.column (drop l.byte-index l.before) ≡ line_column 1 1 l.before;
}
