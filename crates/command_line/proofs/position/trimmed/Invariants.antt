use Rattle.std.proofs.Common.{◌≡◌, drop}
use Rattle.command_line.specs.Position.{trimmed}
use Rattle.command_line.proofs.position.trimmed.Given as goal

-- only white space was passed over
abbrev pub invariant-loop-at : goal.invariant-loop-at
invariant-loop-at l = trimmed (drop l.at l.text) ≡ trimmed l.text
