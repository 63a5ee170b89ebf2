use Rattle.race_core.proofs.ReportsTell.{calls_have_windows}
use Rattle.race_core.proofs.world_laws.calls_have_windows.Goals as goal

pub returns : goal.returns
returns c = calls_have_windows
