use Rattle.walk_plan.proofs.PlanLemmas.{through_lowers}
use Rattle.walk_plan.proofs.laws.fewer_parts_are_left.Goals as goal

pub returns-clause-through : goal.returns-clause-through
returns-clause-through c = through_lowers
