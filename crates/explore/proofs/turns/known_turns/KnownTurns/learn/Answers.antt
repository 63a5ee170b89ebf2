use Rattle.std.proofs.Common.{◌≡◌, ◌∙◌, ℕ, ◌+◌, sym, ap, subst, length, arith}
use Rattle.race_core.specs.Worlds.{WorldView, turn}
use Rattle.local_states.specs.declared.keys.Key.{Key}
use Rattle.local_states.specs.Worlds.{full}
use Rattle.local_states.specs.Keys.{AreRows, AreSameKeys, IsKey}
use Rattle.local_states.specs.Local.{AreNumbered}
use Rattle.local_states.specs.OutOfMemory.{EndsWell}
use Rattle.explore.proofs.Keyed.Growing.{grows_on, grows_same, rows_grow}
use Rattle.explore.proofs.Keyed.OneTurn.{numbered_stays}
use Rattle.local_states.proofs.Parted.SameKeys.{keys_back, key_again, few_copied}
use Rattle.local_states.proofs.Lists.Runs.{turn_stays}
use Rattle.local_states.proofs.OutOfMemory.Lucky.{full_turn, well_turned}
use Rattle.explore.proofs.turns.known_turns.KnownTurns.learn.Goals as goal

pub loop-turn-init : goal.loop-turn-init
loop-turn-init g c =
    let same : AreSameKeys c.in_ok-key.key c.args.key.now = c.in_ok-key.ensures in
    let few = c.requires.few in record {
      rows = c.requires.rows;
      numbered = c.requires.numbered;
      many = ap length same.own ∙ c.requires.many;
      few = (few.0, (omega (arith, few.1.0), few_copied few.0 c.args.key.now c.in_ok-key.key same few.1.1));
      tally = c.requires.tally;
      told = c.requires.told;
      well = λ well. well;
      grows = grows_same;
      sound = λ w sound is well. (sound, key_again _ w _ c.args.key.now c.in_ok-key.key (keys_back c.in_ok-key.key c.args.key.now same) is);
    }

pub loop-turn-preserved : goal.loop-turn-preserved
loop-turn-preserved g c =
    let was = c.loop-turn.invariant in
    let v : WorldView = c.loop-turn.world in
    let after : WorldView = c.go_on_by.new.world in
    let next : Key = c.in_ok-key-2.key in
    let turned = c.in_ok-key-2.ensures.turned in
    let i : ℕ = c.in-Some.actor in
    let few = was.few in
    let grows = c.in_ok-key-2.ensures.grows in
    let seats : length after.seats ≡ length v.seats = ap (λ (u : WorldView). length u.seats) turned.1 ∙ turn_stays turned.0 v i in
    let before : EndsWell after → EndsWell v = λ well. well_turned turned.0 v i (subst (λ (u : WorldView). EndsWell u) turned.1 well) in record {
      rows = subst (λ n. AreRows c.go_on_by.new.self.components.parts n) (sym seats) (rows_grow grows was.rows);
      numbered = subst (λ (u : WorldView). AreNumbered u.seats) (sym turned.1) (numbered_stays turned.0 v i was.numbered);
      many = c.in_ok-key-2.ensures.many ∙ (was.many ∙ sym seats);
      few = (few.0 + 1, (omega (arith, few.1.0), c.in_ok-key-2.ensures.few few.0 few.1.1));
      tally = c.in_ok-key-2.ensures.tally;
      told = c.in_ok-key-2.ensures.same_told ∙ (was.told ∙ sym grows.told);
      well = λ well. was.well (before well);
      grows = grows_on was.grows grows;
      sound = λ w sound is well.
          let here = was.sound w sound is (before well) in
          let full : after ≡ turn full v i = turned.1 ∙ full_turn turned.0 v i (subst (λ (u : WorldView). EndsWell u) turned.1 well) in (
            c.in_ok-key-2.ensures.sound w here.0 here.1 well,
            subst (λ (u : WorldView). IsKey c.go_on_by.new.self.components w u next) (sym full) (c.in_ok-key-2.ensures.key w here.0 here.1 well),
          );
    }

pub returns-clause-sound : goal.returns-clause-sound
returns-clause-sound g c = λ w sound is well. (c.loop-turn.invariant.sound w sound is well).0
