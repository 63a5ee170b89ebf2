use Rattle.calls_by_system_calls.proofs.WholeCalls.{entries_are_changed}
use Rattle.calls_by_system_calls.proofs.laws.entries_are_changed_by_system_calls.Goals as goal

pub returns : goal.returns
returns c = entries_are_changed c.kernel_walks_tell.ensures c.fails_at_once_tell.ensures
