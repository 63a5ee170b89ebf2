use Rattle.std.proofs.Common.{◌≡◌, ◌-◌}
use Rattle.command_line.specs.Cut.{lines_behind}
use Rattle.command_line.proofs.cut.line_at.Given as goal

-- what is left lies behind the lines that were passed over
abbrev pub invariant-loop : goal.invariant-loop
invariant-loop l = lines_behind (l.number - l.counter) l.rest ≡ lines_behind (l.number - 1) l.text
