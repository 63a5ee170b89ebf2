use Rattle.find_place.proofs.WitnessLemmas.{places-are-witnessed}
use Rattle.find_place.proofs.laws.places_are_witnessed.Goals as goal

pub returns : goal.returns
returns c = places-are-witnessed
