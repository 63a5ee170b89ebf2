use Rattle.kernel_walks.proofs.Behind.{entries_behind_walks}
use Rattle.kernel_walks.proofs.laws.entries_are_changed_behind_walks.Goals as goal

pub returns : goal.returns
returns c = entries_behind_walks
