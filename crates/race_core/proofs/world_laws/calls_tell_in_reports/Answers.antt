use Rattle.race_core.proofs.ReportsTell.{calls_in_reports}
use Rattle.race_core.proofs.world_laws.calls_tell_in_reports.Goals as goal

pub returns : goal.returns
returns c = calls_in_reports c.each_call_tells.ensures
