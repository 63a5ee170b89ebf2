use Rattle.std.proofs.Common.{◌<◌, ℕ, sym, subst, length, arith}
use Rattle.std.proofs.lemmas.Result.{IfOk-weaker}
use Rattle.race_core.specs.Worlds.{WorldView, turn}
use Rattle.local_states.specs.Worlds.{full, after_turns}
use Rattle.local_states.specs.Keys.{IsKey, IsKeyAfter}
use Rattle.explore.proofs.Keyed.Found.{few_after, ok_with}
use Rattle.explore.proofs.Keyed.KnownTurn.{known_turn}
use Rattle.local_states.proofs.Parted.SameKeys.{key_turned}
use Rattle.explore.proofs.turns.known_turns.KnownTurns.key_after.Goals as goal

pub returns-in-Some-clause-key : goal.returns-in-Some-clause-key
returns-in-Some-clause-key g c =
    let w : WorldView = g.B.Beginnings.opening c.args.beginnings.now in
    let old = c.args.self.now.components in
    IfOk-weaker c.after.result _ _ (λ next after v is.
    let known = c.in-Some.ensures.known w v c.requires.sound is in
    let actor = known.1.0 in
    let lt : known.0.actor < length v.seats = let there = c.requires.there in let seats = is.seats in omega arith in
    subst (λ (n : ℕ). IsKey old w (turn full v n) next) actor
    (known_turn old w v known.0 c.in-Some.effect c.args.key.now next c.requires.sound.rows (c.requires.sound.given c.in-Some.ensures.given) is
    known.1.1.0 known.1.1.1 (subst (λ (n : ℕ). IsKeyAfter c.args.key.now n c.in-Some.effect next) (sym actor) after) lt))
    c.after.ensures

pub returns-in-Some-clause-few : goal.returns-in-Some-clause-few
returns-in-Some-clause-few g c =
    let lt : c.args.actor < length c.args.key.now.own.items =
    let there = c.requires.there in let seats = c.requires.here.seats in let many = c.requires.here.many in omega arith in
    IfOk-weaker c.after.result _ _ (λ next after n few. few_after n c.args.key.now next c.args.actor c.in-Some.effect lt few after) c.after.ensures

pub returns-clause-key : goal.returns-clause-key
returns-clause-key g c =
    let w : WorldView = g.B.Beginnings.opening c.args.beginnings.now in
    ok_with c.find.result (λ grows next there v is.
    key_turned c.args.self.now.components c.find.new.self.components w (after_turns w c.args.turns.now) v c.args.actor c.args.key.now next
    c.requires.sound.rows c.requires.here is there (sym grows.told))
    c.find.ensures.grows c.find.ensures.key
