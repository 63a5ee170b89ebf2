-- A first turn has few steps to come, since what the order of steps begins with has.
use Rattle.root_ops.specs.TurnView.{below_of}
use Rattle.root_ops.proofs.FirstSteps.{started_few}
use Rattle.root_ops.proofs.call.Call.start.Goals as goal

pub returns-clause-few : goal.returns-clause-few
returns-clause-few c =
    started_few (below_of c.args.root c.args.request.flags) c.args.request.op c.begin.result c.begin.ensures.turn c.begin.ensures.kept
