use Rattle.step_resolver.proofs.Ends.WalksMean.{every_walk}
use Rattle.step_resolver.proofs.laws.headline.Goals as goal

pub returns : goal.returns
returns c = every_walk
