use Rattle.std.proofs.Common.{◌≡◌, ◌∙◌, ◌<◌, ◌+◌, List, Bool, true, length, map, sym, ap, subst, arith}
use Rattle.std.specs.Prelude.{slice_get}
use Rattle.smallvec.proofs.SmallVecLemmas.{items-with_items}
use Rattle.race_core.specs.Worlds.{WorldView, turn}
use Rattle.local_states.specs.declared.keys.Key.{Key}
use Rattle.local_states.specs.declared.keys.Own.{Own}
use Rattle.local_states.specs.Worlds.{full}
use Rattle.explore.specs.Effects.{KnownView, IsSound, IsEffectFrom, AreCountsIn}
use Rattle.local_states.specs.Keys.{AreRows, AreFew, Grows, IsKey, IsPartAt}
use Rattle.local_states.specs.Local.{AreNumbered}
use Rattle.local_states.specs.OutOfMemory.{EndsWell}
use Rattle.local_states.proofs.Parted.SameKeys.{few_again}
use Rattle.explore.proofs.Keyed.Found.{effect_found, few_after, length_after, sound_mid, sound_whole, key_known, key_whole}
use Rattle.explore.proofs.Keyed.Growing.{grows_on, key_grows, rows_grow}
use Rattle.explore.proofs.Keyed.OneTurn.{numbered_stays}
use Rattle.explore.proofs.Lists.Replayed.{turn_actors}
use Rattle.local_states.proofs.OutOfMemory.Lucky.{full_turn}
use Rattle.explore.proofs.turns.known_turns.KnownTurns.key_by.Goals as goal
use Rattle.explore.proofs.turns.known_turns.KnownTurns.key_by.Goals.{then-self+in_ok-remember, else-self+in_ok-put_parts}

pub effect_to-requires-clause-numbered : goal.effect_to-requires-clause-numbered
effect_to-requires-clause-numbered g c =
    let turned = c.in_ok-take_turn.ensures.turned in
    subst (λ (u : WorldView). AreNumbered u.seats) (sym turned.1) (numbered_stays turned.0 c.args.world.now c.args.actor c.requires.numbered)

pub put_parts-requires-clause-numbered : goal.put_parts-requires-clause-numbered
put_parts-requires-clause-numbered g c =
    let turned = c.in_ok-take_turn.ensures.turned in
    subst (λ (u : WorldView). AreNumbered u.seats) (sym turned.1) (numbered_stays turned.0 c.args.world.now c.args.actor c.requires.numbered)

pub put_parts-requires-clause-rows : goal.put_parts-requires-clause-rows
put_parts-requires-clause-rows g c =
    let many : length c.take_turn.new.world.seats ≡ length c.args.world.now.seats =
    turn_actors c.args.world.now c.take_turn.new.world c.args.actor c.in_ok-take_turn.ensures.turned in
    subst (λ n. AreRows c.effect_to.new.self.components.parts n) (sym many) (rows_grow c.in_ok-effect.ensures.grows c.requires.rows)

pub returns-clause-grows : goal.returns-clause-grows
returns-clause-grows g c =
    elim c.if-self.branch [
      | then-self+in_ok-remember w ↦
          subst (λ d. Grows c.args.self.now.components d) (sym (ap (λ (k : KnownView). k.components) w.self-is ∙ w.remember.ensures.components)) c.in_ok-effect.ensures.grows
      | else-self+in_ok-put_parts w ↦
          subst (λ d. Grows c.args.self.now.components d) (sym (ap (λ (k : KnownView). k.components) w.self-is))
          (grows_on c.in_ok-effect.ensures.grows w.in_ok-put_parts.ensures.grows)
    ]

pub returns-clause-few : goal.returns-clause-few
returns-clause-few g c = λ n few.
    let lt : c.args.actor < length c.args.key.now.own.items = let there = c.requires.there in let many = c.requires.many in omega arith in
    let mid : AreFew (n + 1) c.in_ok-next.next = few_after n c.args.key.now c.in_ok-next.next c.args.actor c.in_ok-effect.effect lt few c.in_ok-next.ensures in
    elim c.if-self.branch [
      | then-self+in_ok-remember w ↦ subst (λ (k : Key). AreFew (n + 1) k) (sym w.next-is) mid
      | else-self+in_ok-put_parts w ↦
          let own : c.if-self.next.own.items ≡ w.put_parts.new.own =
          ap (λ (k : Key). k.own.items) w.next-is ∙ items-with_items c.in_ok-next.next.own w.put_parts.new.own (w.put_parts.auto.own ∙ ap length w.as_mut_slice.ensures.value) in
          few_again (n + 1) c.in_ok-next.next c.if-self.next (record {
            nodes = sym (ap (λ (k : Key). k.nodes) w.next-is);
            events = sym (ap (λ (k : Key). k.events) w.next-is);
            opened = sym (ap (λ (k : Key). k.opened) w.next-is);
            closed = sym (ap (λ (k : Key). k.closed) w.next-is);
            own = sym (ap (map (λ (o : Own). o.outside)) own ∙ (w.in_ok-put_parts.ensures.outside ∙ ap (map (λ (o : Own). o.outside)) w.as_mut_slice.ensures.value));
          }) mid
    ]

pub returns-clause-many : goal.returns-clause-many
returns-clause-many g c =
    let set : length c.in_ok-next.next.own.items ≡ length c.args.key.now.own.items = length_after c.args.key.now c.in_ok-next.next c.args.actor c.in_ok-effect.effect c.in_ok-next.ensures in
    elim c.if-self.branch [
      | then-self+in_ok-remember w ↦ ap (λ (k : Key). length k.own.items) w.next-is ∙ set
      | else-self+in_ok-put_parts w ↦
          let long : length w.put_parts.new.own ≡ length c.in_ok-next.next.own.items = w.put_parts.auto.own ∙ ap length w.as_mut_slice.ensures.value in
          ap (λ (k : Key). length k.own.items) w.next-is
          ∙ (ap length (items-with_items c.in_ok-next.next.own w.put_parts.new.own long) ∙ (long ∙ set))
    ]

pub returns-clause-sound : goal.returns-clause-sound
returns-clause-sound g c = λ w sound is well.
    let turned = c.in_ok-take_turn.ensures.turned in
    let expanded : c.take_turn.new.world ≡ turn turned.0 c.args.world.now c.args.actor = turned.1 in
    let effect : IsEffectFrom c.effect_to.new.self.components c.args.world.now c.args.actor c.in_ok-effect.effect =
    effect_found c.effect_to.new.self.components c.args.tally.now.told turned.0 c.args.actor c.args.world.now c.take_turn.new.world c.in_ok-effect.effect c.of-before.result c.of-after.result
    (c.in_ok-effect.ensures.grows.told ∙ sym c.requires.told) c.requires.numbered c.requires.there expanded well c.of-before.ensures
    (subst (λ (b : Bool). AreCountsIn b c.take_turn.new.world c.args.actor c.of-after.result) c.take_turn.ensures.told c.of-after.ensures)
    c.in_ok-effect.ensures.compared c.in_ok-effect.ensures.nodes c.in_ok-effect.ensures.part in
    let mid : IsSound w c.effect_to.new.self =
    sound_mid c.args.self.now c.effect_to.new.self w c.args.world.now c.args.actor c.in_ok-effect.effect c.args.key.now c.in_ok-next.next sound is
    c.in_ok-effect.ensures.grows c.in_ok-effect.ensures.rest c.requires.there effect c.in_ok-next.ensures in
    elim c.if-self.branch [
      | then-self+in_ok-remember x ↦
          subst (λ (k : KnownView). IsSound w k) (sym x.self-is)
          (x.remember.ensures.sound w c.args.world.now mid (key_grows c.in_ok-effect.ensures.grows is) effect)
      | else-self+in_ok-put_parts x ↦
          subst (λ (k : KnownView). IsSound w k) (sym x.self-is)
          (sound_whole c.args.self.now c.effect_to.new.self w c.args.world.now c.args.actor c.in_ok-effect.effect c.args.key.now c.in_ok-next.next
          sound is c.in_ok-effect.ensures.grows c.in_ok-effect.ensures.rest c.requires.there effect c.in_ok-next.ensures
          x.put_parts.new.self x.in_ok-put_parts.ensures.grows x.in_ok-put_parts.ensures.rest)
    ]

pub returns-clause-key : goal.returns-clause-key
returns-clause-key g c = λ w sound is well.
    let turned = c.in_ok-take_turn.ensures.turned in
    let expanded : c.take_turn.new.world ≡ turn turned.0 c.args.world.now c.args.actor = turned.1 in
    let effect : IsEffectFrom c.effect_to.new.self.components c.args.world.now c.args.actor c.in_ok-effect.effect =
    effect_found c.effect_to.new.self.components c.args.tally.now.told turned.0 c.args.actor c.args.world.now c.take_turn.new.world c.in_ok-effect.effect c.of-before.result c.of-after.result
    (c.in_ok-effect.ensures.grows.told ∙ sym c.requires.told) c.requires.numbered c.requires.there expanded well c.of-before.ensures
    (subst (λ (b : Bool). AreCountsIn b c.take_turn.new.world c.args.actor c.of-after.result) c.take_turn.ensures.told c.of-after.ensures)
    c.in_ok-effect.ensures.compared c.in_ok-effect.ensures.nodes c.in_ok-effect.ensures.part in
    let all : c.take_turn.new.world ≡ turn full c.args.world.now c.args.actor =
    expanded ∙ full_turn turned.0 c.args.world.now c.args.actor (subst (λ u. EndsWell u) expanded well) in
    elim c.if-self.branch [
      | then-self+in_ok-remember x ↦
          let given : c.args.self.now.are_given ≡ true =
          sym (ap (λ (k : KnownView). k.are_given) c.in_ok-effect.ensures.rest) ∙ (sym (ap (λ (k : KnownView). k.are_given) c.self.view_is) ∙ x.if-self.true) in
          subst (λ (k : Key). IsKey c.if-self.self.components w (turn full c.args.world.now c.args.actor) k) (sym x.next-is)
          (key_known c.args.self.now c.effect_to.new.self w c.args.world.now c.args.actor c.in_ok-effect.effect c.args.key.now c.in_ok-next.next
          sound is c.in_ok-effect.ensures.grows c.in_ok-effect.ensures.rest c.requires.there effect c.in_ok-next.ensures
          c.if-self.self given (ap (λ (k : KnownView). k.components) x.self-is ∙ x.remember.ensures.components))
      | else-self+in_ok-put_parts x ↦
          let own : c.if-self.next.own.items ≡ x.put_parts.new.own =
          ap (λ (k : Key). k.own.items) x.next-is ∙ items-with_items c.in_ok-next.next.own x.put_parts.new.own (x.put_parts.auto.own ∙ ap length x.as_mut_slice.ensures.value) in
          subst (λ (k : KnownView). IsKey k.components w (turn full c.args.world.now c.args.actor) c.if-self.next) (sym x.self-is)
          (key_whole c.args.self.now c.effect_to.new.self w c.args.world.now c.args.actor c.in_ok-effect.effect c.args.key.now c.in_ok-next.next
          sound is c.in_ok-effect.ensures.grows c.in_ok-effect.ensures.rest c.requires.there effect c.in_ok-next.ensures
          x.put_parts.new.self c.if-self.next x.in_ok-put_parts.ensures.grows
          (record {
            nodes = sym (ap (λ (k : Key). k.nodes) x.next-is);
            events = sym (ap (λ (k : Key). k.events) x.next-is);
            opened = sym (ap (λ (k : Key). k.opened) x.next-is);
            closed = sym (ap (λ (k : Key). k.closed) x.next-is);
            own = sym (ap (map (λ (o : Own). o.outside)) own ∙ (x.in_ok-put_parts.ensures.outside ∙ ap (map (λ (o : Own). o.outside)) x.as_mut_slice.ensures.value));
          })
          (λ j one there. subst (λ u. IsPartAt x.put_parts.new.self.components u j one.part) all
          (x.in_ok-put_parts.ensures.parts j one (ap (λ (os : List Own). slice_get os j) (sym own) ∙ there))))
    ]
