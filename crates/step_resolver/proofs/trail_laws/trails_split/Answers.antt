use Rattle.step_resolver.proofs.Trail.Joined.{split}
use Rattle.step_resolver.proofs.trail_laws.trails_split.Goals as goal

pub returns : goal.returns
returns c = λ timeline ps qs s z next t. split timeline ps qs t
