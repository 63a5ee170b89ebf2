use Rattle.std.proofs.Common.{◌≡◌, rules}
use Rattle.serde_json.specs.View.{items_view}
use Rattle.explore_parts.specs.declared.part_read.PartFault.TheVariants.{Shape}
use Rattle.explore_parts.specs.Options.{IsUnsaid}
use Rattle.explore_parts.specs.PartRead.{ItemsSay, SaysTold}
use Rattle.explore_parts.proofs.Reading.{goes_on, stops, ends}
use Rattle.explore_parts.proofs.part_read.all_told.Goals as goal

pub loop-value-preserved : goal.loop-value-preserved
loop-value-preserved c =
    goes_on SaysTold c.args.values.now c.loop-value.value-index c.loop-value.all.items c.value-item.result c.in_ok-told.field-0 c.add.new.all.items
    c.loop-value-test.true c.value-item.is c.in_ok-told.ensures c.in_ok-add.ensures c.loop-value.invariant

pub returns-in_err-told : goal.returns-in_err-told
returns-in_err-told c =
    let unsaid : c.in_err-told.field-0.0 ≡ Shape → IsUnsaid (ItemsSay SaysTold (items_view c.args.values.now)) =
    λ e. stops SaysTold c.args.values.now c.loop-value.value-index c.loop-value.all.items c.value-item.result
    c.loop-value-test.true c.value-item.is (c.in_err-told.ensures e) c.loop-value.invariant in
    search rules

pub returns : goal.returns
returns c = ends SaysTold c.args.values.now c.loop-value.value-index c.loop-value.all.items c.loop-value-test.false c.loop-value.invariant
