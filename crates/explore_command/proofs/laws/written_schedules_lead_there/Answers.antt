use Rattle.explore_command.proofs.Replayed.{written_lead_there}
use Rattle.explore_command.proofs.laws.written_schedules_lead_there.Goals as goal

pub returns : goal.returns
returns c = written_lead_there
