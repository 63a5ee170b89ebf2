use Rattle.std.proofs.Common.{◌≡◌, rules}
use Rattle.serde_json.specs.View.{items_view}
use Rattle.explore_parts.specs.declared.part_read.PartFault.TheVariants.{Shape}
use Rattle.explore_parts.specs.Options.{IsUnsaid}
use Rattle.explore_parts.specs.PartRead.{ItemsSay, SaysActor}
use Rattle.explore_parts.proofs.Reading.{goes_on, stops, ends}
use Rattle.explore_parts.proofs.part_read.all_actors.Goals as goal

pub loop-value-preserved : goal.loop-value-preserved
loop-value-preserved c =
    goes_on SaysActor c.args.values.now c.loop-value.value-index c.loop-value.actors.items c.value-item.result c.in_ok-actor.field-0 c.add.new.all.items
    c.loop-value-test.true c.value-item.is c.in_ok-actor.ensures c.in_ok-add.ensures c.loop-value.invariant

pub returns-in_err-actor : goal.returns-in_err-actor
returns-in_err-actor c =
    let unsaid : c.in_err-actor.field-0.0 ≡ Shape → IsUnsaid (ItemsSay SaysActor (items_view c.args.values.now)) =
    λ e. stops SaysActor c.args.values.now c.loop-value.value-index c.loop-value.actors.items c.value-item.result
    c.loop-value-test.true c.value-item.is (c.in_err-actor.ensures e) c.loop-value.invariant in
    search rules

pub returns : goal.returns
returns c = ends SaysActor c.args.values.now c.loop-value.value-index c.loop-value.actors.items c.loop-value-test.false c.loop-value.invariant
