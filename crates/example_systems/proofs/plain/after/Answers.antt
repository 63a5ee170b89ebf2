use Rattle.std.proofs.Common.{◌∙◌, ap, sym, get_or}
use Rattle.example_systems.specs.Plain.{system_of}
use Rattle.example_systems.proofs.Turns.{turn_at}
use Rattle.example_systems.proofs.plain.after.Goals as goal

pub loop-actor-preserved : goal.loop-actor-preserved
loop-actor-preserved g c =
    let p = g.P.PlainSystem.plain c.args.plain.now in
    let k = c.loop-actor.actor-index in
    let more = turn_at (system_of p) p.begin c.args.turns.now k c.loop-actor-test.true in
    c.turn-state.ensures ∙ (ap (λ v. p.turn v (get_or c.args.turns.now k 0)) c.loop-actor.invariant ∙ sym more)
