use Rattle.std.proofs.Common.{rules}
use Rattle.serde_json.specs.View.{items_view}
use Rattle.scripts.specs.Checks.{each}
use Rattle.scripts.specs.Fault.{IsFaultOf}
use Rattle.scripts.specs.Plans.{actor_at}
use Rattle.scripts.proofs.Each.{begins, goes_on, stops, ends}
use Rattle.scripts.proofs.actors.plans_of.Goals as goal

pub loop-at-init : goal.loop-at-init
loop-at-init c = begins _ _ _ c.in_ok-plans.ensures.items

pub loop-at-preserved : goal.loop-at-preserved
loop-at-preserved c =
    goes_on (actor_at c.args.purpose c.args.nodes.now c.args.version) c.args.actors.now c.loop-at.at c.loop-at.plans.items c.index-actors-at.result c.in_ok-plan.plan c.push.new.self.items
    c.loop-at-test.true c.index-actors-at.is c.in_ok-plan.ensures.ok c.in_ok-push.ensures.items c.loop-at.invariant

pub returns-clause-ok : goal.returns-clause-ok
returns-clause-ok c =
    ends (actor_at c.args.purpose c.args.nodes.now c.args.version) c.args.actors.now c.loop-at.at c.loop-at.plans.items c.loop-at-test.false c.loop-at.invariant

pub returns-in_err-plan-clause-err : goal.returns-in_err-plan-clause-err
returns-in_err-plan-clause-err c =
    let told : IsFaultOf (each (actor_at c.args.purpose c.args.nodes.now c.args.version) 0 (items_view c.args.actors.now)) c.in_err-plan.field-0.0 =
    stops (actor_at c.args.purpose c.args.nodes.now c.args.version) c.args.actors.now c.loop-at.at c.loop-at.plans.items c.index-actors-at.result c.in_err-plan.field-0.0
    c.loop-at-test.true c.index-actors-at.is c.in_err-plan.ensures.err c.loop-at.invariant in
    search rules
