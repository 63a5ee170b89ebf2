use Rattle.std.proofs.Common.{◌<◌, ◌∙◌, length, arith}
use Rattle.std.proofs.lemmas.Option.{slice_get_within}
use Rattle.explore.proofs.Keyed.Found.{outside_kept, parts_more}
use Rattle.explore.proofs.Keyed.Growing.{grows_on, rows_grow}
use Rattle.explore.proofs.turns.known_turns.KnownTurns.put_parts.Goals as goal

pub put_part-requires-clause-rows : goal.put_part-requires-clause-rows
put_part-requires-clause-rows g c = rows_grow c.loop-actor.invariant.grows c.requires.rows

pub loop-actor-preserved : goal.loop-actor-preserved
loop-actor-preserved g c =
    let was = c.loop-actor.invariant in
    let old = c.loop-actor.self-inside.components in
    let lt : c.loop-actor.actor < length c.loop-actor.own = omega arith in
    record {
      grows = grows_on was.grows c.put_part.ensures.grows;
      entries = was.entries;
      start = was.start;
      given = was.given;
      outside = outside_kept old c.put_part.new.self c.args.world.now c.loop-actor.own c.loop-actor.actor
          c.in_ok-own.field-0 c.put_part.ensures.grows lt ∙ was.outside;
      parts = parts_more old c.put_part.new.self c.args.world.now c.loop-actor.own c.loop-actor.actor
          c.in_ok-own.field-0 c.put_part.ensures.grows lt
          c.in_ok-own.ensures.part was.parts;
    }

pub returns-clause-parts : goal.returns-clause-parts
returns-clause-parts g c = λ i one there.
    let within : i < length c.loop-actor.own = slice_get_within c.loop-actor.own i one there in
    c.loop-actor.invariant.parts i one (omega arith) there
