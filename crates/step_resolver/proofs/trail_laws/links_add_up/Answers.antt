use Rattle.step_resolver.proofs.Trail.Joined.{rises, fewer_links, with_more_links}
use Rattle.step_resolver.proofs.trail_laws.links_add_up.Goals as goal

pub returns : goal.returns
returns c = record {
  rising = λ timeline ps s z next t. (rises timeline t, fewer_links timeline t);
  more = λ timeline k ps s z next t. with_more_links timeline k t;
}
