use Rattle.walk_plan.specs.declared.goal.Goal.TheVariants.{Deepest}
use Rattle.step_resolver.specs.TurnView.{turn_view}
use Rattle.bulk_ops.specs.MakeAllView.{way_of}
use Rattle.bulk_ops.proofs.MakeAllSteps.{walk_begun}
use Rattle.bulk_ops.proofs.make_all.Call.begins.Goals as goal

pub returns-clause-turn : goal.returns-clause-turn
returns-clause-turn c =
    walk_begun (way_of c.args.self.now) c.args.path c.after_walk.result (turn_view Deepest c.start-turn.result)
    c.after_walk.ensures.turn.0 c.start-turn.ensures.turn c.after_walk.ensures.turn.1
