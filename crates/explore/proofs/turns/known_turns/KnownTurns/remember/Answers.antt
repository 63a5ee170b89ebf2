use Rattle.std.proofs.Common.{ℕ, sym, subst}
use Rattle.explore.specs.Effects.{KnownView, IsSound, IsMemoKeyOf, IsEffectFrom}
use Rattle.explore.proofs.Keyed.Found.{remembered_more}
use Rattle.explore.proofs.turns.known_turns.KnownTurns.remember.Goals as goal

pub returns-clause-sound : goal.returns-clause-sound
returns-clause-sound g c = λ w v sound is found.
    let old : KnownView = record {
      components = c.self.inside.components;
      entries = c.self.inside.memo;
      start = c.self.inside.start;
      are_given = c.self.inside.are_given;
    } in
    let was : IsSound w old = subst (λ (k : KnownView). IsSound w k) (sym c.self.view_is) sound in
    let asked : IsMemoKeyOf old.components w v c.memo_key-memo_key.result =
    subst (λ (k : KnownView). IsMemoKeyOf k.components w v c.memo_key-memo_key.result) (sym c.self.view_is) (c.memo_key-memo_key.ensures.is w v sound.start is) in
    let effect : IsEffectFrom old.components v c.memo_key-memo_key.result.actor c.args.effect =
    subst (λ (n : ℕ). IsEffectFrom old.components v n c.args.effect) (sym c.memo_key-memo_key.ensures.actor)
    (subst (λ (k : KnownView). IsEffectFrom k.components v c.args.actor c.args.effect) (sym c.self.view_is) found) in
    record {
      rows = was.rows;
      numbered = was.numbered;
      start = was.start;
      given = was.given;
      turns = remembered_more old.components w v c.memo_key-memo_key.result c.args.effect old.entries c.put.new.self c.put.ensures asked effect was.turns;
    }
