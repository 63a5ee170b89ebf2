use Rattle.std.proofs.Common.{◌≤◌, length, subst}
use Rattle.path_text.specs.declared.path.TheConstants.{PARTS_MAX}
use Rattle.path_text.specs.Reading.{Reading}
use Rattle.walk_plan.specs.declared.goal.Goal.TheVariants.{Deepest}
use Rattle.step_resolver.specs.View.{way_from}
use Rattle.bulk_ops.proofs.MakeAllSteps.{begun_few}
use Rattle.bulk_ops.proofs.MakeAllTurns.{begun_tells}
use Rattle.bulk_ops.proofs.make_all.MkdirAll.start.Goals as goal

pub returns-clause-few : goal.returns-clause-few
returns-clause-few c =
    let few = subst (λ (r : Reading). length r.parts ≤ PARTS_MAX) c.path.view_is c.path.invariant.few in
    begun_few (way_from c.args.root Deepest c.args.flags) c.args.path c.begins.result few c.begins.ensures.turn

pub returns-clause-tells : goal.returns-clause-tells
returns-clause-tells c = begun_tells (way_from c.args.root Deepest c.args.flags) c.args.path c.begins.result c.begins.ensures.turn
