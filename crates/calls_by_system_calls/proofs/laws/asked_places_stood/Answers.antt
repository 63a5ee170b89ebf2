use Rattle.calls_by_system_calls.proofs.Places.{asked_places_stood}
use Rattle.calls_by_system_calls.proofs.laws.asked_places_stood.Goals as goal

pub returns : goal.returns
returns c = asked_places_stood c.places_stood.ensures
