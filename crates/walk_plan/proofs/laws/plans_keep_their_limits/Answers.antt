use Rattle.walk_plan.proofs.PlanLemmas.{IsPlan-through}
use Rattle.walk_plan.proofs.laws.plans_keep_their_limits.Goals as goal

pub returns-clause-through : goal.returns-clause-through
returns-clause-through c = IsPlan-through
