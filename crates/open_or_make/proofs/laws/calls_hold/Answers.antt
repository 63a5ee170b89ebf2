use Rattle.open_or_make.proofs.CallLemmas.{calls-hold}
use Rattle.open_or_make.proofs.laws.calls_hold.Goals as goal

pub returns : goal.returns
returns c = calls-hold
