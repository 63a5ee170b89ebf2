use Rattle.root_ops.proofs.VainCalls.{vain_calls_need_changes}
use Rattle.root_ops.proofs.laws.vain_calls_need_changes.Goals as goal

pub returns : goal.returns
returns c = vain_calls_need_changes
