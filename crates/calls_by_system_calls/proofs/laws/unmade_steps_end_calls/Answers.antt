use Rattle.calls_by_system_calls.proofs.Unmade.{unmade_steps}
use Rattle.calls_by_system_calls.proofs.laws.unmade_steps_end_calls.Goals as goal

pub returns : goal.returns
returns c = unmade_steps
