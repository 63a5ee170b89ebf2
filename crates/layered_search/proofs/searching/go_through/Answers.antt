use Rattle.layered_search.specs.Limits.{scope_of, limits_of}
use Rattle.std.proofs.Common.{◌≡◌, sym, subst, rules}
use Rattle.layered_search.specs.Asked.{HasMoreStates, WhyNot}
use Rattle.layered_search.proofs.Layers.States.{some_state}
use Rattle.layered_search.proofs.searching.go_through.Goals as goal

pub returns-in_err-memory-clause-err : goal.returns-in_err-memory-clause-err
returns-in_err-memory-clause-err g c =
    let s = g.S.TransitionSystem.system c.args.system.now in
    let why : WhyNot s (limits_of c.args.limits.now) c.in_err-memory.field-0.0 = c.in_err-memory.ensures.err (limits_of c.args.limits.now) in
    search rules

pub returns-then-limits-eq0-clause-err : goal.returns-then-limits-eq0-clause-err
returns-then-limits-eq0-clause-err g c =
    let s = g.S.TransitionSystem.system c.args.system.now in
    let none : c.args.limits.now.states ≡ 0 = c.if-limits-eq0.true in
    subst (λ n. HasMoreStates s (scope_of c.args.limits.now.scope) n) (sym none) (some_state s (scope_of c.args.limits.now.scope))
