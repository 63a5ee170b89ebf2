use Rattle.std.proofs.Common.{◌≡◌, ◌-◌, take, drop}
use Rattle.event_log.specs.Shapes.{pieces_read}
use Rattle.event_log.proofs.compare.are_names.Given as goal

-- the names so far are those, and what the rest still has
abbrev pub invariant-loop-at : goal.invariant-loop-at
invariant-loop-at l = record {
  same : take l.at (pieces_read l.count l.bytes) ≡ take l.at l.names;
  left : drop l.at (pieces_read l.count l.bytes) ≡ pieces_read (l.count - l.at) l.rest;
}
