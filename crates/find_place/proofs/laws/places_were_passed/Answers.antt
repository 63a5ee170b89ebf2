use Rattle.find_place.proofs.MomentLemmas.{places-were-passed}
use Rattle.find_place.proofs.laws.places_were_passed.Goals as goal

pub returns : goal.returns
returns c = places-were-passed
