use Rattle.kernel_walks.proofs.AtOnce.{misses}
use Rattle.kernel_walks.proofs.laws.fails_at_once_tell.Goals as goal

pub returns : goal.returns
returns c = misses c.each_call_tells.ensures
