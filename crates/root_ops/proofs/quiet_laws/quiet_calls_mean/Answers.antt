use Rattle.root_ops.proofs.Quiet.CallsAlone.{quiet_calls_mean}
use Rattle.root_ops.proofs.quiet_laws.quiet_calls_mean.Goals as goal

pub returns : goal.returns
returns c = quiet_calls_mean
