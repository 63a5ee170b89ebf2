use Rattle.bulk_ops.proofs.MakeAllSteps.{walk_taken}
use Rattle.bulk_ops.proofs.make_all.Call.walked.Goals as goal

pub returns-clause-turn : goal.returns-clause-turn
returns-clause-turn c =
    walk_taken c.args.self.now c.args.walk c.args.answer c.after_walk.result c.take-turn.result c.requires.1 c.take-turn.ensures.turn
    c.after_walk.ensures.turn.0 c.after_walk.ensures.turn.1
