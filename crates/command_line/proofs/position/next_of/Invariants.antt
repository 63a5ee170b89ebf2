use Rattle.std.proofs.Common.{◌≡◌, ◌≤◌, drop}
use Rattle.command_line.specs.Position.{START, next_of}
use Rattle.command_line.proofs.position.next_of.Given as goal

-- no end was passed over
abbrev pub invariant-loop-at : goal.invariant-loop-at
invariant-loop-at l = record {
  levels : l.place.levels ≤ l.at;
  same : next_of l.place (drop l.at l.text) ≡ next_of START l.text;
}
