use Rattle.step_resolver.proofs.Renumbered.{like_walks_agree}
use Rattle.step_resolver.proofs.laws.like_walks_agree.Goals as goal

pub returns : goal.returns
returns c = like_walks_agree
