use Rattle.step_resolver.proofs.Trail.Joined.{appended, stop_of_more}
use Rattle.step_resolver.proofs.trail_laws.trails_append.Goals as goal

pub returns : goal.returns
returns c = record {
  trails = λ timeline ps qs s mid z next t u. appended timeline t u;
  stops = λ timeline ps qs s z p t. stop_of_more timeline qs t;
}
