use Rattle.race_core.proofs.HandlesLeft.{handles_at_end}
use Rattle.race_core.proofs.world_laws.handles_at_end.Goals as goal

pub returns : goal.returns
returns c = handles_at_end c.calls_tell.ensures
