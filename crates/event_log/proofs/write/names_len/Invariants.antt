use Rattle.std.proofs.Common.{◌≡◌, ◌≤◌, ◌+◌, drop, length}
use Rattle.event_log.specs.Shapes.{pieces_of}
use Rattle.event_log.proofs.write.names_len.Given as goal

-- what is counted and what is left to count make the whole
abbrev pub invariant-loop-at : goal.invariant-loop-at
invariant-loop-at l = record {
  whole : l.size + length (pieces_of (drop l.at l.names)) ≡ length (pieces_of l.names);
  within : l.size ≤ l.most;
}
