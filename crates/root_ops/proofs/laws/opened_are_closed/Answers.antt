use Rattle.root_ops.proofs.OwnHandles.OfCalls.{opened_are_closed}
use Rattle.root_ops.proofs.laws.opened_are_closed.Goals as goal

pub returns : goal.returns
returns c = opened_are_closed
