use Rattle.step_resolver.proofs.Ends.WalksMean.{walks_mean}
use Rattle.step_resolver.proofs.footprint_laws.walks_mean.Goals as goal

pub returns : goal.returns
returns c = walks_mean
