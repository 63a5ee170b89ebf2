use Rattle.std.proofs.Common.{ap, arith}
use Rattle.local_states.specs.Keys.{PartsView}
use Rattle.local_states.proofs.Parted.Rows.{rows_push, apart_push}
use Rattle.local_states.proofs.components.no_parts.Goals as goal

pub loop-actor-preserved : goal.loop-actor-preserved
loop-actor-preserved c = record {
  rows = rows_push c.loop-actor.parts.items c.push_reserved.new.self.items c.new.result c.loop-actor.actor c.push_reserved.ensures.items
      c.loop-actor.invariant.rows (ap (λ (row : PartsView). row.actor) c.new.ensures);
  apart = apart_push c.loop-actor.parts.items c.push_reserved.new.self.items c.new.result c.push_reserved.ensures.items
      c.loop-actor.invariant.apart (ap (λ (row : PartsView). row.parts) c.new.ensures);
  room = omega arith;
}

pub returns-clause-apart : goal.returns-clause-apart
returns-clause-apart c = c.loop-actor.invariant.apart
