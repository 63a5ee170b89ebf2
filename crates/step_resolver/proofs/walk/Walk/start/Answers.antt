use Rattle.std.proofs.Common.{◌≤◌, length, subst}
use Rattle.path_text.specs.declared.path.TheConstants.{PARTS_MAX}
use Rattle.path_text.specs.Reading.{Reading}
use Rattle.step_resolver.specs.View.{way_from}
use Rattle.step_resolver.proofs.WalkSteps.{starts_few}
use Rattle.step_resolver.proofs.walk.Walk.start.Goals as goal

pub returns-clause-few : goal.returns-clause-few
returns-clause-few c =
    let few = subst (λ (r : Reading). length r.parts ≤ PARTS_MAX) c.path.view_is c.path.invariant.few in
    starts_few (way_from c.args.root c.args.goal c.args.flags) c.args.path c.first.result few c.first.ensures.turn
