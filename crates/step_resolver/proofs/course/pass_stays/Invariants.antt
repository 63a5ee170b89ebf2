use Rattle.walk_plan.specs.Plan.{most_parts_left}
use Rattle.step_resolver.specs.View.{SameCourse}
use Rattle.step_resolver.proofs.course.pass_stays.Given as goal

abbrev pub invariant-loop-plan : goal.invariant-loop-plan
invariant-loop-plan l = SameCourse l.initial.plan l.plan

abbrev pub decreases-loop-plan : goal.decreases-loop-plan
decreases-loop-plan l = most_parts_left l.plan
