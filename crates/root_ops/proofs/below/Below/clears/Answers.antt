use Rattle.root_ops.specs.View.{next_view}
use Rattle.root_ops.proofs.Bulk.{clears_by}
use Rattle.root_ops.proofs.below.Below.clears.Goals as goal

pub returns-clause-turn : goal.returns-clause-turn
returns-clause-turn c =
    clears_by c.args.self.now c.args.name c.args.directory c.start-turn.result (next_view c.cleared.result) c.start-turn.ensures.turn c.cleared.ensures.turn
