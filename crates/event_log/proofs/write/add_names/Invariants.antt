use Rattle.std.proofs.Common.{◌≡◌, ◌≤◌, ◌+◌, ◌++◌, drop, length}
use Rattle.std.specs.Prelude.{vec_len, vec_capacity}
use Rattle.event_log.specs.Shapes.{pieces_of}
use Rattle.event_log.proofs.write.add_names.Given as goal

-- what is written and what is left to write make the whole, and there is room for what is left
abbrev pub invariant-loop-at : goal.invariant-loop-at
invariant-loop-at l = record {
  whole : l.bytes.items ++ pieces_of (drop l.at l.names) ≡ l.fn.bytes.items ++ pieces_of l.names;
  room : vec_len l.bytes + length (pieces_of (drop l.at l.names)) ≤ vec_capacity l.bytes;
}
