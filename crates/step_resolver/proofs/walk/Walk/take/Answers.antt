-- What the answer made of the walk has fewer steps left, since what the order of steps makes of it has.
use Rattle.step_resolver.proofs.WalkSteps.{taken_lowers}
use Rattle.step_resolver.proofs.walk.Walk.take.Goals as goal

pub returns-clause-fewer : goal.returns-clause-fewer
returns-clause-fewer c = taken_lowers c.args.self.way c.args.self.walking c.args.answer c.taken.result c.taken.ensures.turn
