-- What the answer made of the call has fewer steps left, since what the order of steps makes of it has.
use Rattle.root_ops.proofs.Steps.{taken_lowers}
use Rattle.root_ops.proofs.call.Call.take.Goals as goal

pub returns-clause-fewer : goal.returns-clause-fewer
returns-clause-fewer c = taken_lowers c.args.self.below c.args.self.doing c.args.answer c.taken.result c.taken.ensures.turn c.taken.ensures.kept
