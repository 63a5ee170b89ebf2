use Rattle.race_core.proofs.WorkedRun.{undisturbed_is_meant}
use Rattle.race_core.proofs.world_laws.undisturbed_resolve_is_worked.Goals as goal

pub returns : goal.returns
returns c = undisturbed_is_meant
