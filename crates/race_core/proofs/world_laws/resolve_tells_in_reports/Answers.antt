use Rattle.race_core.proofs.ReportsTell.{resolves_in_reports}
use Rattle.race_core.proofs.world_laws.resolve_tells_in_reports.Goals as goal

pub returns : goal.returns
returns c = resolves_in_reports c.headline.ensures
