use Rattle.std.proofs.Common.{◌≡◌, ◌-◌, take, drop}
use Rattle.event_log.specs.Shapes.{pieces_read}
use Rattle.event_log.proofs.read.names_of.Given as goal

-- the names so far, and what the rest still has
abbrev pub invariant-loop-at : goal.invariant-loop-at
invariant-loop-at l = record {
  names : l.names ≡ take l.at (pieces_read l.count l.bytes);
  left : drop l.at (pieces_read l.count l.bytes) ≡ pieces_read (l.count - l.at) l.rest;
}
