use Rattle.std.proofs.Common.{◌≡◌, rules}
use Rattle.serde_json.specs.View.{items_view}
use Rattle.explore_parts.specs.declared.part_read.PartFault.TheVariants.{Shape}
use Rattle.explore_parts.specs.Options.{IsUnsaid}
use Rattle.explore_parts.specs.PartRead.{ItemsSay, SaysActors}
use Rattle.explore_parts.proofs.Reading.{goes_on, stops, ends}
use Rattle.explore_parts.proofs.part_read.all_lists.Goals as goal

pub loop-value-preserved : goal.loop-value-preserved
loop-value-preserved c =
    goes_on SaysActors c.args.values.now c.loop-value.value-index c.loop-value.lists.items c.value-item.result c.in_ok-actors.field-0 c.add.new.all.items
    c.loop-value-test.true c.value-item.is c.in_ok-actors.ensures c.in_ok-add.ensures c.loop-value.invariant

pub returns-in_err-actors : goal.returns-in_err-actors
returns-in_err-actors c =
    let unsaid : c.in_err-actors.field-0.0 ≡ Shape → IsUnsaid (ItemsSay SaysActors (items_view c.args.values.now)) =
    λ e. stops SaysActors c.args.values.now c.loop-value.value-index c.loop-value.lists.items c.value-item.result
    c.loop-value-test.true c.value-item.is (c.in_err-actors.ensures e) c.loop-value.invariant in
    search rules

pub returns : goal.returns
returns c = ends SaysActors c.args.values.now c.loop-value.value-index c.loop-value.lists.items c.loop-value-test.false c.loop-value.invariant
