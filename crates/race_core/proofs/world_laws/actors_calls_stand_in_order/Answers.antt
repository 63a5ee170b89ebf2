use Rattle.race_core.proofs.WorldSoFar.{calls_in_order}
use Rattle.race_core.proofs.world_laws.actors_calls_stand_in_order.Goals as goal

pub returns : goal.returns
returns c = calls_in_order
