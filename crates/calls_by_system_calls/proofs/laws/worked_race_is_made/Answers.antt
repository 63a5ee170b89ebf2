use Rattle.calls_by_system_calls.proofs.WorkedRace.{race_is_made}
use Rattle.calls_by_system_calls.proofs.laws.worked_race_is_made.Goals as goal

pub returns : goal.returns
returns c = race_is_made
