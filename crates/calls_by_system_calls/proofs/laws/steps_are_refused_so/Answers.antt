use Rattle.calls_by_system_calls.proofs.Refusing.{refused_so}
use Rattle.calls_by_system_calls.proofs.laws.steps_are_refused_so.Goals as goal

pub returns : goal.returns
returns c = refused_so
