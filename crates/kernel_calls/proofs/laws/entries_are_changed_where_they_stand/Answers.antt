use Rattle.kernel_calls.proofs.EntryLemmas.{entries-hold}
use Rattle.kernel_calls.proofs.laws.entries_are_changed_where_they_stand.Goals as goal

pub returns : goal.returns
returns c = entries-hold
