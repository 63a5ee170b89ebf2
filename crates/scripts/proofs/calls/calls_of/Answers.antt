use Rattle.std.proofs.Common.{◌≡◌, List, subst, rules}
use Rattle.std.specs.Prelude.{Ok, IfErr}
use Rattle.serde_json.specs.View.{view, items_view}
use Rattle.scripts.specs.declared.labels.Label.{Label}
use Rattle.scripts.specs.Calls.{call_at}
use Rattle.scripts.specs.Checks.{each}
use Rattle.scripts.specs.Fault.{IsFaultOf}
use Rattle.scripts.proofs.Each.{begins, goes_on, stops, ends}
use Rattle.scripts.proofs.calls.calls_of.Goals as goal

pub loop-at-init : goal.loop-at-init
loop-at-init c = begins _ _ _ c.new-plans.ensures

pub loop-at-preserved : goal.loop-at-preserved
loop-at-preserved c =
    goes_on (call_at c.args.purpose c.args.version c.args.actor c.in_ok-labels.labels.items) c.args.calls.now c.loop-at.at c.loop-at.plans c.index-calls-at.result c.in_ok-planned.planned c.push.new.self
    c.loop-at-test.true c.index-calls-at.is
    (subst (λ (labels : List Label). call_at c.args.purpose c.args.version c.args.actor labels c.loop-at.at (view c.index-calls-at.result) ≡ Ok c.in_ok-planned.planned) c.deref.ensures.value c.in_ok-planned.ensures.ok)
    c.in_ok-push.ensures.ok c.loop-at.invariant

pub returns-clause-ok : goal.returns-clause-ok
returns-clause-ok c = rw (← c.in_ok-labels.ensures)
    (ends (call_at c.args.purpose c.args.version c.args.actor c.in_ok-labels.labels.items) c.args.calls.now c.loop-at.at c.loop-at.plans c.loop-at-test.false c.loop-at.invariant)

pub returns-in_err-planned-clause-err : goal.returns-in_err-planned-clause-err
returns-in_err-planned-clause-err c =
    let labels = c.in_ok-labels.labels.items in
    let here : IsFaultOf (call_at c.args.purpose c.args.version c.args.actor labels c.loop-at.at (view c.index-calls-at.result)) c.in_err-planned.field-0.0 =
    subst (λ (ls : List Label). IsFaultOf (call_at c.args.purpose c.args.version c.args.actor ls c.loop-at.at (view c.index-calls-at.result)) c.in_err-planned.field-0.0) c.deref.ensures.value c.in_err-planned.ensures.err in
    let told : IsFaultOf (each (call_at c.args.purpose c.args.version c.args.actor labels) 0 (items_view c.args.calls.now)) c.in_err-planned.field-0.0 =
    stops (call_at c.args.purpose c.args.version c.args.actor labels) c.args.calls.now c.loop-at.at c.loop-at.plans c.index-calls-at.result c.in_err-planned.field-0.0
    c.loop-at-test.true c.index-calls-at.is here c.loop-at.invariant in
    subst (λ (ls : List Label). IfErr c.from_residual-in_err-planned.result (IsFaultOf (each (call_at c.args.purpose c.args.version c.args.actor ls) 0 (items_view c.args.calls.now)))) c.in_ok-labels.ensures (search rules)
