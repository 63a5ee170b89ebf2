use Rattle.std.proofs.Common.{length, sym, subst}
use Rattle.explore.specs.Effects.{KnownView}
use Rattle.local_states.specs.Keys.{AreRows}
use Rattle.explore.proofs.Keyed.Growing.{rows_grow}
use Rattle.explore.proofs.turns.known_turns.KnownTurns.effect_to.Goals as goal

pub put_part-requires-clause-rows : goal.put_part-requires-clause-rows
put_part-requires-clause-rows g c =
    rows_grow c.put_nodes.ensures.grows
    (subst (λ (k : KnownView). AreRows k.components.parts (length c.args.world.now.seats)) (sym c.self.view_is) c.requires.rows)
