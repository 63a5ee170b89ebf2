use Rattle.find_place.proofs.CallLemmas.{calls-hold}
use Rattle.find_place.proofs.laws.calls_hold.Goals as goal

pub returns : goal.returns
returns c = calls-hold
