use Rattle.step_resolver.proofs.Ends.WalksMean.{quiet_walks_mean}
use Rattle.step_resolver.proofs.footprint_laws.quiet_walks_mean.Goals as goal

pub returns : goal.returns
returns c = quiet_walks_mean
