use Rattle.root_ops.specs.View.{next_view}
use Rattle.root_ops.proofs.Rooms.{walks_by}
use Rattle.root_ops.proofs.below.Below.walks.Goals as goal

pub returns-in_default : goal.returns-in_default
returns-in_default c = record {
  turn = walks_by c.args.self.now c.args.aim c.args.path c.goal.result c.start.result (next_view c.walked.result) c.requires c.goal.ensures c.start.ensures.turn c.walked.ensures.turn;
  kept = c.walked.ensures.kept;
}
