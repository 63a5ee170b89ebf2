use Rattle.step_resolver.proofs.Ends.RacedMeansChange.{raced_tells_of_change}
use Rattle.step_resolver.proofs.footprint_laws.raced_tells_of_change.Goals as goal

pub returns : goal.returns
returns c = raced_tells_of_change
