use Rattle.open_or_make.proofs.CallLemmas.{one-call}
use Rattle.open_or_make.proofs.laws.one_call_is_all.Goals as goal

pub returns : goal.returns
returns c = one-call
