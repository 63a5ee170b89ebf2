use Rattle.step_resolver.proofs.Ends.EveryWalk.{walks_tell}
use Rattle.step_resolver.proofs.laws.walks_tell.Goals as goal

pub returns : goal.returns
returns c = walks_tell
