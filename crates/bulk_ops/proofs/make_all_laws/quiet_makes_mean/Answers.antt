use Rattle.bulk_ops.proofs.MakingAlone.WalkFirst.{quiet_makes_mean}
use Rattle.bulk_ops.proofs.make_all_laws.quiet_makes_mean.Goals as goal

pub returns : goal.returns
returns c = quiet_makes_mean
