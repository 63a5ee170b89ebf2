use Rattle.root_ops.proofs.Handles.BulkHistory.{bulk_calls_tell}
use Rattle.root_ops.proofs.laws.bulk_calls_tell.Goals as goal

pub returns : goal.returns
returns c = bulk_calls_tell
