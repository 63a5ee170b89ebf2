use Rattle.give_entry.proofs.GiveLemmas.{few-come}
use Rattle.give_entry.proofs.laws.calls_are_few.Goals as goal

pub returns : goal.returns
returns c = few-come
