use Rattle.find_place.proofs.MomentLemmas.{places-stood}
use Rattle.find_place.proofs.laws.places_stood.Goals as goal

pub returns : goal.returns
returns c = places-stood
