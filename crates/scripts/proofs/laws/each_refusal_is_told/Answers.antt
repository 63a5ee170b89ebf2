use Rattle.scripts.proofs.CallFaults.{refusals_told}
use Rattle.scripts.proofs.laws.each_refusal_is_told.Goals as goal

pub returns : goal.returns
returns c = refusals_told
