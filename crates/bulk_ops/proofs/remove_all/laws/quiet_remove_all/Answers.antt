use Rattle.bulk_ops.proofs.RemovingAll.Quiet.Whole.{quiet_remove_all}
use Rattle.bulk_ops.proofs.remove_all.laws.quiet_remove_all.Goals as goal

pub returns : goal.returns
returns c = quiet_remove_all
