use Rattle.further_walk_laws.proofs.EveryWalk.{steps_by_trail}
use Rattle.further_walk_laws.proofs.laws.steps_by_trail.Goals as goal

pub returns : goal.returns
returns c = steps_by_trail
