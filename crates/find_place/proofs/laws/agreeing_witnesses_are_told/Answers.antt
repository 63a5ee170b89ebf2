use Rattle.find_place.proofs.AgreeLemmas.{agreeing-witnesses-are-told}
use Rattle.find_place.proofs.laws.agreeing_witnesses_are_told.Goals as goal

pub returns : goal.returns
returns c = agreeing-witnesses-are-told
