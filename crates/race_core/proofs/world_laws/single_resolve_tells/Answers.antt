use Rattle.race_core.proofs.ReportsTell.{resolves_alone}
use Rattle.race_core.proofs.world_laws.single_resolve_tells.Goals as goal

pub returns : goal.returns
returns c = resolves_alone c.headline.ensures
