use Rattle.system_calls.proofs.OpeningLemmas.{contradiction-refused}
use Rattle.system_calls.proofs.laws.contradictions_are_refused.Goals as goal

pub returns : goal.returns
returns c = contradiction-refused
