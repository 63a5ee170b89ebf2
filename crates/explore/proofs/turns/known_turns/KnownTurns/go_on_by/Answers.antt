use Rattle.std.proofs.Common.{◌<◌, ℕ, sym, subst, length, arith}
use Rattle.std.proofs.lemmas.Result.{IfOk-weaker}
use Rattle.race_core.specs.Worlds.{turn}
use Rattle.local_states.specs.Worlds.{full}
use Rattle.local_states.specs.Keys.{IsKey, IsKeyAfter}
use Rattle.explore.proofs.Keyed.Found.{few_after, length_after}
use Rattle.explore.proofs.Keyed.KnownTurn.{known_turn}
use Rattle.explore.proofs.turns.known_turns.KnownTurns.go_on_by.Goals as goal

pub returns-in-Some-clause-key : goal.returns-in-Some-clause-key
returns-in-Some-clause-key g c =
    let old = c.args.self.now.components in
    let v = c.args.world.now in
    IfOk-weaker c.after.result _ _ (λ next after w sound is well.
    let known = c.in-Some.ensures.known w v sound is in
    let actor = known.1.0 in
    let lt : known.0.actor < length v.seats = let there = c.requires.there in omega arith in
    subst (λ (n : ℕ). IsKey old w (turn full v n) next) actor
    (known_turn old w v known.0 c.in-Some.effect c.args.key.now next sound.rows (sound.given c.in-Some.ensures.given) is
    known.1.1.0 known.1.1.1 (subst (λ (n : ℕ). IsKeyAfter c.args.key.now n c.in-Some.effect next) (sym actor) after) lt))
    c.after.ensures

pub returns-in-Some-clause-few : goal.returns-in-Some-clause-few
returns-in-Some-clause-few g c =
    let lt : c.args.actor < length c.args.key.now.own.items =
    let there = c.requires.there in let many = c.requires.many in omega arith in
    IfOk-weaker c.after.result _ _ (λ next after n few. few_after n c.args.key.now next c.args.actor c.in-Some.effect lt few after) c.after.ensures

pub returns-in-Some-clause-many : goal.returns-in-Some-clause-many
returns-in-Some-clause-many g c =
    IfOk-weaker c.after.result _ _ (λ next after. length_after c.args.key.now next c.args.actor c.in-Some.effect after) c.after.ensures
