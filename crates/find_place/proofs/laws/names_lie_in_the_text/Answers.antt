use Rattle.find_place.proofs.TextLemmas.{lies}
use Rattle.find_place.proofs.laws.names_lie_in_the_text.Goals as goal

pub returns : goal.returns
returns c = lies
