use Rattle.root_ops.proofs.Handles.CallsTell.{calls_tell}
use Rattle.root_ops.proofs.laws.calls_tell.Goals as goal

pub returns : goal.returns
returns c = calls_tell
