-- What contracts see of a plan.
use Rattle.walk_plan.specs.declared.plan.Plan.TheInside.{Inside}
use Rattle.walk_plan.specs.Plan.{PlanState, IsPlan}

abbrev pub plan_of : Inside → PlanState
plan_of p =
    record { inner = p.inner; own = p.own; names = p.names; links_left = p.links_left; goal = p.goal; flags = p.flags }

abbrev pub HasLimits : Inside → Type 0
HasLimits p = IsPlan (plan_of p)
