use Rattle.kernel_calls.proofs.EntryLemmas.{renames-hold}
use Rattle.kernel_calls.proofs.laws.entries_are_renamed_where_they_stand.Goals as goal

pub returns : goal.returns
returns c = renames-hold
