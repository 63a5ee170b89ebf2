use Rattle.kernel_walks.proofs.EachOperation.{kernel_walks_tell}
use Rattle.kernel_walks.proofs.laws.kernel_walks_tell.Goals as goal

pub returns : goal.returns
returns c = kernel_walks_tell c.each_call_tells.ensures
