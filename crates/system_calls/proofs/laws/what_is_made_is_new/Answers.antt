use Rattle.system_calls.proofs.OpeningLemmas.{made-new}
use Rattle.system_calls.proofs.laws.what_is_made_is_new.Goals as goal

pub returns : goal.returns
returns c = made-new
