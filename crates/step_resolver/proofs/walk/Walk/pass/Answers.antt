-- What the answer made of the walk has fewer steps left, since what the order of steps makes of it has.
use Rattle.step_resolver.proofs.WalkSteps.{more_lowers}
use Rattle.step_resolver.proofs.walk.Walk.pass.Goals as goal

pub returns-clause-fewer : goal.returns-clause-fewer
returns-clause-fewer c = λ passed. more_lowers c.args.self.now.way c.args.self.now.walking c.args.answer.now c.passed.new.self.walking (c.passed.ensures.turn passed)
