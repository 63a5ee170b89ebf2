use Rattle.race_core.proofs.ReportsTell.{four_are_enough}
use Rattle.race_core.proofs.world_laws.four_handles_are_enough_in_reports.Goals as goal

pub returns : goal.returns
returns c = four_are_enough c.each_call_tells.ensures c.four_handles_are_enough.ensures
