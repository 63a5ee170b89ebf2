use Rattle.std.proofs.Common.{◌≡◌, rules}
use Rattle.serde_json.specs.View.{items_view}
use Rattle.explore_parts.specs.declared.part_read.PartFault.TheVariants.{Shape}
use Rattle.explore_parts.specs.Options.{IsUnsaid}
use Rattle.explore_parts.specs.PartRead.{ItemsSay, SaysProperty}
use Rattle.explore_parts.proofs.Reading.{goes_on, stops, ends}
use Rattle.explore_parts.proofs.part_read.all_properties.Goals as goal

pub loop-value-preserved : goal.loop-value-preserved
loop-value-preserved c =
    goes_on SaysProperty c.args.values.now c.loop-value.value-index c.loop-value.all.items c.value-item.result c.in_ok-property.field-0 c.add.new.all.items
    c.loop-value-test.true c.value-item.is c.in_ok-property.ensures c.in_ok-add.ensures c.loop-value.invariant

pub returns-in_err-property : goal.returns-in_err-property
returns-in_err-property c =
    let unsaid : c.in_err-property.field-0.0 ≡ Shape → IsUnsaid (ItemsSay SaysProperty (items_view c.args.values.now)) =
    λ e. stops SaysProperty c.args.values.now c.loop-value.value-index c.loop-value.all.items c.value-item.result
    c.loop-value-test.true c.value-item.is (c.in_err-property.ensures e) c.loop-value.invariant in
    search rules

pub returns : goal.returns
returns c = ends SaysProperty c.args.values.now c.loop-value.value-index c.loop-value.all.items c.loop-value-test.false c.loop-value.invariant
