use Rattle.race_core.proofs.ReportsTell.{walks_in_reports}
use Rattle.race_core.proofs.world_laws.walks_tell_in_reports.Goals as goal

pub returns : goal.returns
returns c = walks_in_reports c.headline.ensures
