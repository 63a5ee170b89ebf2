use Rattle.std.proofs.Common.{◌∙◌, ℕ, ◌+◌, subst, arith}
use Rattle.race_core.specs.Worlds.{WorldView, turn}
use Rattle.local_states.specs.Worlds.{full}
use Rattle.local_states.specs.Keys.{IsKey, AreFew}
use Rattle.local_states.proofs.Parted.Growing.{rows_grow}
use Rattle.explore.proofs.Keyed.Found.{ok_with}
use Rattle.explore.proofs.Lists.Replayed.{ok_both}
use Rattle.explore.proofs.system.WorldsTransitionSystem.next.Goals as goal

pub returns-clause-follows : goal.returns-clause-follows
returns-clause-follows g c =
    let w : WorldView = g.B.Beginnings.opening c.args.self.now.beginnings.now in
    let old = c.args.memory.now.components in
    let new = c.key_after.new.self.components in
    let key = c.args.key.now in
    ok_with {Q = λ next. ((v : WorldView) → IsKey old w v key → IsKey new w (turn full v c.from.result) next) × ((n : ℕ) → AreFew n key → AreFew (n + 1) next)}
    c.key_after.result (λ grows next both v is. record {
      told_is = grows.told ∙ is.told_is;
      rows = rows_grow grows is.rows;
      is = subst (λ i. IsKey new w (turn full v i) next) c.from.ensures (both.0 v is.is);
      few = subst (λ n. AreFew n next) (omega arith) (both.1 _ is.few);
    })
    c.key_after.ensures.grows
    (ok_both c.key_after.result (λ next key few. (key, few)) c.key_after.ensures.key c.key_after.ensures.few)
