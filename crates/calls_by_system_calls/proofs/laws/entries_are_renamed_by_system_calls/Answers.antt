use Rattle.calls_by_system_calls.proofs.WholeRenames.{entries_are_renamed}
use Rattle.calls_by_system_calls.proofs.laws.entries_are_renamed_by_system_calls.Goals as goal

pub returns : goal.returns
returns c = entries_are_renamed c.kernel_walks_tell.ensures c.fails_at_once_tell.ensures
