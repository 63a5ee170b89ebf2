use Rattle.step_resolver.proofs.Changes.{raced_walk_met}
use Rattle.step_resolver.proofs.footprint_laws.raced_walks_need_a_change.Goals as goal

pub returns : goal.returns
returns c = raced_walk_met
