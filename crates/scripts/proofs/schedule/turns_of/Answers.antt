use Rattle.std.proofs.Common.{rules}
use Rattle.serde_json.specs.View.{items_view}
use Rattle.scripts.specs.Checks.{each}
use Rattle.scripts.specs.Fault.{IsFaultOf}
use Rattle.scripts.specs.Schedule.{turn_at}
use Rattle.scripts.proofs.Each.{begins, goes_on, stops, ends}
use Rattle.scripts.proofs.schedule.turns_of.Goals as goal

pub loop-at-init : goal.loop-at-init
loop-at-init c = begins _ _ _ c.in_ok-schedule.ensures.items

pub loop-at-preserved : goal.loop-at-preserved
loop-at-preserved c =
    goes_on (turn_at c.args.actors) c.args.turns.now c.loop-at.at c.loop-at.schedule.items c.index-turns-at.result c.in_ok-actor.actor c.push.new.self.items
    c.loop-at-test.true c.index-turns-at.is c.in_ok-actor.ensures.ok c.in_ok-push.ensures.items c.loop-at.invariant

pub returns-clause-ok : goal.returns-clause-ok
returns-clause-ok c =
    ends (turn_at c.args.actors) c.args.turns.now c.loop-at.at c.loop-at.schedule.items c.loop-at-test.false c.loop-at.invariant

pub returns-in_err-actor-clause-err : goal.returns-in_err-actor-clause-err
returns-in_err-actor-clause-err c =
    let told : IsFaultOf (each (turn_at c.args.actors) 0 (items_view c.args.turns.now)) c.in_err-actor.field-0.0 =
    stops (turn_at c.args.actors) c.args.turns.now c.loop-at.at c.loop-at.schedule.items c.index-turns-at.result c.in_err-actor.field-0.0
    c.loop-at-test.true c.index-turns-at.is c.in_err-actor.ensures.err c.loop-at.invariant in
    search rules
