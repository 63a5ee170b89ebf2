use Rattle.step_resolver.proofs.Underway.StepCount.{steps_by_parts_passed}
use Rattle.step_resolver.proofs.laws.steps_by_parts_passed.Goals as goal

pub returns : goal.returns
returns c = steps_by_parts_passed
