use Rattle.remove_by_calls.proofs.RemovalLemmas.{removals-hold}
use Rattle.remove_by_calls.proofs.laws.removals_hold.Goals as goal

pub returns : goal.returns
returns c = removals-hold
