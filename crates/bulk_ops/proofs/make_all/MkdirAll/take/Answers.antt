-- What the answer made of the call has fewer steps left, since what the order of steps makes of it has.
use Rattle.bulk_ops.proofs.MakeAllSteps.{taken_fewer}
use Rattle.bulk_ops.proofs.MakeAllTurns.{taken_tells}
use Rattle.bulk_ops.proofs.make_all.MkdirAll.take.Goals as goal

pub returns-clause-fewer : goal.returns-clause-fewer
returns-clause-fewer c = taken_fewer c.args.self.way c.args.self.making c.args.answer c.taken.result c.taken.ensures.turn

pub returns-clause-tells : goal.returns-clause-tells
returns-clause-tells c = taken_tells c.args.self.way c.args.self.making c.args.answer c.taken.result c.taken.ensures.turn
