use Rattle.race_core.proofs.HandlesLeft.{kept_is_released}
use Rattle.race_core.proofs.world_laws.kept_is_released.Goals as goal

pub returns : goal.returns
returns c = kept_is_released
