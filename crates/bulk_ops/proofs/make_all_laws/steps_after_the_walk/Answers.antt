use Rattle.bulk_ops.proofs.MakeAllSteps.{steps_after_the_walk}
use Rattle.bulk_ops.proofs.make_all_laws.steps_after_the_walk.Goals as goal

pub returns : goal.returns
returns c = steps_after_the_walk
