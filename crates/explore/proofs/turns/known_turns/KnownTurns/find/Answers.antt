use Rattle.std.proofs.Common.{◌≡◌, ◌∙◌, ◌+◌, ap, sym, subst, length, arith}
use Rattle.race_core.specs.Worlds.{WorldView, turn, Runs}
use Rattle.local_states.specs.Worlds.{full, after_turns}
use Rattle.explore.specs.Effects.{KnownView}
use Rattle.local_states.specs.Keys.{AreRows, IsKey}
use Rattle.local_states.specs.Local.{AreNumbered}
use Rattle.explore.specs.Replayed.{ReplayedView}
use Rattle.local_states.specs.OutOfMemory.{EndsWell}
use Rattle.explore.proofs.Keyed.Found.{runs_numbered, before_there, ran_to}
use Rattle.explore.proofs.Keyed.Growing.{grows_on, rows_grow, key_grows}
use Rattle.explore.proofs.Keyed.OneTurn.{numbered_stays}
use Rattle.explore.proofs.Lists.Replayed.{at_ok}
use Rattle.local_states.proofs.Lists.Runs.{turn_stays}
use Rattle.explore.proofs.OutOfMemory.Followed.{ends_well}
use Rattle.local_states.proofs.OutOfMemory.Lucky.{full_turn}
use Rattle.explore.proofs.turns.known_turns.KnownTurns.find.Goals as goal

pub key_by-key-requires-clause-numbered : goal.key_by-key-requires-clause-numbered
key_by-key-requires-clause-numbered g c =
    let w : WorldView = g.B.Beginnings.opening c.args.beginnings.now in
    runs_numbered w c.replayed.inside.world _ (ran_to w _ c.replayed.view_is c.in-Ok.ensures.ran) c.requires.sound.numbered

pub learn-requires-clause-rows : goal.learn-requires-clause-rows
learn-requires-clause-rows g c =
    let turned = c.in-Ok-key.ensures.turned in
    let seats = ap (λ (u : WorldView). length u.seats) turned.1 ∙ turn_stays turned.0 c.replayed.inside.world c.args.actor in
    let actors = ap (λ (l : ReplayedView). length l.world.seats) c.replayed.view_is ∙ c.in-Ok.ensures.actors in
    subst (λ n. AreRows c.key_by-key.new.self.components.parts n) (sym (seats ∙ actors)) (rows_grow c.in-Ok-key.ensures.grows c.requires.sound.rows)

pub learn-requires-clause-numbered : goal.learn-requires-clause-numbered
learn-requires-clause-numbered g c =
    let w : WorldView = g.B.Beginnings.opening c.args.beginnings.now in
    let turned = c.in-Ok-key.ensures.turned in
    subst (λ (u : WorldView). AreNumbered u.seats) (sym turned.1)
    (numbered_stays turned.0 c.replayed.inside.world c.args.actor
    (runs_numbered w c.replayed.inside.world _ (ran_to w _ c.replayed.view_is c.in-Ok.ensures.ran) c.requires.sound.numbered))

pub learn-requires-clause-many : goal.learn-requires-clause-many
learn-requires-clause-many g c =
    let turned = c.in-Ok-key.ensures.turned in
    let seats = ap (λ (u : WorldView). length u.seats) turned.1 ∙ turn_stays turned.0 c.replayed.inside.world c.args.actor in
    let actors = ap (λ (l : ReplayedView). length l.world.seats) c.replayed.view_is ∙ c.in-Ok.ensures.actors in
    let here = c.requires.here in
    let key = c.in-Ok-key.ensures.many in
    omega (arith, key, seats, actors, here.many, here.seats)

pub learn-requires-clause-few : goal.learn-requires-clause-few
learn-requires-clause-few g c =
    let few = c.requires.few in
    (few.0 + 1, (omega (arith, few.1.0), c.in-Ok-key.ensures.few few.0 few.1.1))

pub learn-requires-clause-tally : goal.learn-requires-clause-tally
learn-requires-clause-tally g c = c.in-Ok-key.ensures.tally

pub learn-requires-clause-told : goal.learn-requires-clause-told
learn-requires-clause-told g c =
    c.in-Ok-key.ensures.same_told ∙ (ap (λ (l : ReplayedView). l.told) c.replayed.view_is
    ∙ (c.in-Ok.ensures.told ∙ (c.told.ensures ∙ (ap (λ (k : KnownView). k.components.told) c.self.view_is ∙ sym c.in-Ok-key.ensures.grows.told))))

pub returns-clause-grows : goal.returns-clause-grows
returns-clause-grows g c =
    grows_on c.in-Ok-key.ensures.grows (at_ok c.learn.result (sym c.is_err.ensures.value ∙ c.if-is_err.false) c.learn.ensures.grows)

pub returns-clause-sound : goal.returns-clause-sound
returns-clause-sound g c =
    let w : WorldView = g.B.Beginnings.opening c.args.beginnings.now in
    let last : EndsWell c.learn.new.world =
    ends_well c.learn.new.world _ _ _ _ c.in_ok-_report.ensures.ran c.in_ok-_report.ensures.none in
    let well : EndsWell c.key_by-key.new.world =
    at_ok c.learn.result (sym c.is_err.ensures.value ∙ c.if-is_err.false) c.learn.ensures.well last in
    let there : c.replayed.inside.world ≡ after_turns w c.args.turns.now =
    before_there w c.replayed.inside.world c.args.turns.now
    (subst (λ is. Runs w is c.replayed.inside.world) (c.as_slice.ensures.value ∙ c.in_ok-turns.ensures) (ran_to w _ c.replayed.view_is c.in-Ok.ensures.ran))
    c.args.actor c.key_by-key.new.world c.in-Ok-key.ensures.turned well in
    let here = subst (λ (u : WorldView). IsKey c.args.self.now.components w u c.args.from.now) (sym there) c.requires.here in
    let mid = c.in-Ok-key.ensures.sound w c.requires.sound here well in
    let turned : c.key_by-key.new.world ≡ turn full c.replayed.inside.world c.args.actor =
    c.in-Ok-key.ensures.turned.1 ∙ full_turn c.in-Ok-key.ensures.turned.0 c.replayed.inside.world c.args.actor
    (subst (λ (u : WorldView). EndsWell u) c.in-Ok-key.ensures.turned.1 well) in
    at_ok c.learn.result (sym c.is_err.ensures.value ∙ c.if-is_err.false) c.learn.ensures.sound w mid
    (subst (λ (u : WorldView). IsKey c.key_by-key.new.self.components w u c.in-Ok-key.key) (sym turned)
    (c.in-Ok-key.ensures.key w c.requires.sound here well)) last

pub returns-clause-key : goal.returns-clause-key
returns-clause-key g c =
    let w : WorldView = g.B.Beginnings.opening c.args.beginnings.now in
    let last : EndsWell c.learn.new.world =
    ends_well c.learn.new.world _ _ _ _ c.in_ok-_report.ensures.ran c.in_ok-_report.ensures.none in
    let well : EndsWell c.key_by-key.new.world =
    at_ok c.learn.result (sym c.is_err.ensures.value ∙ c.if-is_err.false) c.learn.ensures.well last in
    let there : c.replayed.inside.world ≡ after_turns w c.args.turns.now =
    before_there w c.replayed.inside.world c.args.turns.now
    (subst (λ is. Runs w is c.replayed.inside.world) (c.as_slice.ensures.value ∙ c.in_ok-turns.ensures) (ran_to w _ c.replayed.view_is c.in-Ok.ensures.ran))
    c.args.actor c.key_by-key.new.world c.in-Ok-key.ensures.turned well in
    let here = subst (λ (u : WorldView). IsKey c.args.self.now.components w u c.args.from.now) (sym there) c.requires.here in
    key_grows (at_ok c.learn.result (sym c.is_err.ensures.value ∙ c.if-is_err.false) c.learn.ensures.grows)
    (subst (λ (u : WorldView). IsKey c.key_by-key.new.self.components w (turn full u c.args.actor) c.in-Ok-key.key) there
    (c.in-Ok-key.ensures.key w c.requires.sound here well))
