use Rattle.bulk_ops.proofs.MakingAlone.WorkedMakes.{makes_are_worked}
use Rattle.bulk_ops.proofs.make_all_laws.worked_makes.Goals as goal

pub returns : goal.returns
returns c = makes_are_worked
