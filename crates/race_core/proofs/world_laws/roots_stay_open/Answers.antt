use Rattle.race_core.proofs.HandlesLeft.{roots_stay_open}
use Rattle.race_core.proofs.world_laws.roots_stay_open.Goals as goal

pub returns : goal.returns
returns c = roots_stay_open
