use Rattle.std.proofs.Common.{◌≡◌, ◌≤◌, ◌+◌, ◌++◌, length, map, drop, vec_len, vec_capacity}
use Rattle.path_text.specs.Parts.{parts_at, ArePlaces, BeginsWith}
use Rattle.path_text.specs.Text.{pieces, part_of}
use Rattle.path_text.proofs.places.push_pieces.Given as goal

-- the parts of what is left, and those whose places are put, make the whole
abbrev pub invariant-loop-rest : goal.invariant-loop-rest
invariant-loop-rest l = record {
  beginning : BeginsWith (drop l.low l.buffer) l.rest;
  parts : map part_of (pieces l.rest) ++ parts_at l.buffer l.spans.items ≡ map part_of (pieces (drop l.low l.buffer)) ++ parts_at l.buffer l.fn.spans.items;
  room : vec_len l.spans + length (pieces l.rest) ≤ vec_capacity l.spans;
  places : ArePlaces l.buffer l.spans.items;
}

abbrev pub decreases-loop-rest : goal.decreases-loop-rest
decreases-loop-rest l = length l.rest
