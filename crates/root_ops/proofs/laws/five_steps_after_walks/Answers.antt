use Rattle.root_ops.proofs.FirstSteps.{five_after_walks, bulk_after_walks}
use Rattle.root_ops.proofs.laws.five_steps_after_walks.Goals as goal

pub returns : goal.returns
returns c = record { own = five_after_walks; bulk = bulk_after_walks }
