use Rattle.system_calls.proofs.OpeningLemmas.{found-used}
use Rattle.system_calls.proofs.laws.what_is_found_is_used_so.Goals as goal

pub returns : goal.returns
returns c = found-used
