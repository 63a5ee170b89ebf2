use Rattle.std.proofs.Common.{◌≤◌, ◌+◌, ◌-◌, vec_len, vec_capacity}
use Rattle.local_states.specs.Keys.{AreRows}
use Rattle.local_states.proofs.Parted.Rows.{AreApartRows}
use Rattle.local_states.proofs.components.no_parts.Given as goal

-- there are rows for so many, and there is room for the others
abbrev pub invariant-loop-actor : goal.invariant-loop-actor
invariant-loop-actor l = record {
  rows : AreRows l.parts.items l.actor;
  apart : AreApartRows l.parts.items;
  room : vec_len l.parts + (l.actors - l.actor) ≤ vec_capacity l.parts;
}
