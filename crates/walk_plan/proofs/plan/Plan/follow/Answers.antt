use Rattle.std.proofs.Common.{ap, refl, arith}
use Rattle.walk_plan.specs.Plan.{PlanState}
use Rattle.walk_plan.specs.View.{plan_of}
use Rattle.walk_plan.proofs.PlanLemmas.{plan_followed}
use Rattle.walk_plan.proofs.plan.Plan.follow.Goals as goal

pub invariant_of-self-then-absolute : goal.invariant_of-self-then-absolute
invariant_of-self-then-absolute c =
    plan_followed (plan_of c.self.inside) _ c.args.text c.self.invariant c.requires.text (omega (arith, c.requires.left, ap (λ (p : PlanState). p.links_left) c.self.view_is))
    c.in_ok-splice.ensures.inner c.in_ok-splice.ensures.own refl

pub invariant_of-self-else-absolute : goal.invariant_of-self-else-absolute
invariant_of-self-else-absolute c =
    plan_followed (plan_of c.self.inside) _ c.args.text c.self.invariant c.requires.text (omega (arith, c.requires.left, ap (λ (p : PlanState). p.links_left) c.self.view_is))
    c.in_ok-splice.ensures.inner c.in_ok-splice.ensures.own refl
