use Rattle.std.proofs.Common.{◌≡◌, ◌∙◌, false, sym, subst, ⊎_elim, arith}
use Rattle.layered_search.specs.System.{state_after}
use Rattle.layered_search.proofs.Layers.Endings.{over_from}
use Rattle.layered_search.proofs.Places.{at_or_below}
use Rattle.layered_search.proofs.frontier.ends.is_over.Goals as goal

pub loop-actor-preserved : goal.loop-actor-preserved
loop-actor-preserved g c = λ n is key i lt.
    let s = g.S.TransitionSystem.system c.args.system.now in
    let v = state_after s is in
    ⊎_elim (c.loop-actor.invariant n is key i)
    (λ e. subst (λ m. s.is_busy v m ≡ false) (sym e) (sym (c.is_busy.ensures n v key) ∙ c.if-is_busy.false))
    (at_or_below i c.loop-actor.actor lt)

pub returns-then-is_busy : goal.returns-then-is_busy
returns-then-is_busy g c = λ n is key.
    let s = g.S.TransitionSystem.system c.args.system.now in
    (c.loop-actor.actor, sym (c.is_busy.ensures n (state_after s is) key) ∙ c.if-is_busy.true)

pub returns : goal.returns
returns g c = λ n is key.
    let v = c.args.system.now in
    let s = g.S.TransitionSystem.system v in
    let many = c.actors-actor-end.ensures c.args.memory.now n (state_after s is) key in
    over_from s (g.S.TransitionSystem.is_system v) is c.loop-actor.actor
    (omega (arith, many, c.loop-actor-test.false, c.loop-actor.auto.actor-end)) (c.loop-actor.invariant n is key)
