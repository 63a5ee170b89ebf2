use Rattle.step_resolver.proofs.Ends.WorkedRace.{race_is_worked}
use Rattle.step_resolver.proofs.laws.worked_race.Goals as goal

pub returns : goal.returns
returns c = race_is_worked
