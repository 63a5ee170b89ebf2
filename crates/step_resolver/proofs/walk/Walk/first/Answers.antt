use Rattle.std.proofs.Common.{true, subst}
use Rattle.path_text.specs.declared.errno.Errno.TheVariants.{CrossRoot}
use Rattle.walk_plan.specs.Plan.{PlanState, begun, leads_out}
use Rattle.step_resolver.specs.View.{way_of}
use Rattle.step_resolver.specs.TurnView.{Keeps}
use Rattle.step_resolver.proofs.TurnsTell.{refused_begins}
use Rattle.step_resolver.proofs.WalkSteps.{plan_made}
use Rattle.step_resolver.proofs.walk.Walk.first.Goals as goal

pub returns-in-Ok-clause-kept : goal.returns-in-Ok-clause-kept
returns-in-Ok-clause-kept c =
    let made = plan_made (leads_out c.args.path.absolute c.args.flags) c.in-Ok.plan (begun c.args.path c.args.goal c.args.flags) CrossRoot c.in-Ok.ensures in
    subst (λ (p : PlanState). Keeps c.args.root.owner (way_of c.args.root p) c.on_course.result) made.1 c.on_course.ensures.kept

pub returns-in-Err-clause-turn : goal.returns-in-Err-clause-turn
returns-in-Err-clause-turn c =
    (true, refused_begins c.args.root c.args.path c.args.goal c.args.flags (begun c.args.path c.args.goal c.args.flags) c.in-Err.error c.in-Err.ensures)
