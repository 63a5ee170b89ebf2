use Rattle.find_place.proofs.HeldLemmas.{names-are-looked-up-first}
use Rattle.find_place.proofs.laws.names_are_looked_up_first.Goals as goal

pub returns : goal.returns
returns c = names-are-looked-up-first
