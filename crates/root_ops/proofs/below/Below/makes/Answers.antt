use Rattle.root_ops.specs.View.{next_view}
use Rattle.root_ops.proofs.Bulk.{makes_by}
use Rattle.root_ops.proofs.below.Below.makes.Goals as goal

pub returns-clause-turn : goal.returns-clause-turn
returns-clause-turn c = makes_by c.args.self.now c.args.path c.start-turn.result (next_view c.made.result) c.start-turn.ensures.turn c.made.ensures.turn
