use Rattle.kernel_calls.proofs.LinkLemmas.{links-hold}
use Rattle.kernel_calls.proofs.laws.objects_are_linked_where_entries_stand.Goals as goal

pub returns : goal.returns
returns c = links-hold
