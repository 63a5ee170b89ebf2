use Rattle.system_calls.proofs.OpeningLemmas.{kind-asked}
use Rattle.system_calls.proofs.laws.kinds_are_asked_for.Goals as goal

pub returns : goal.returns
returns c = kind-asked
