use Rattle.calls_by_system_calls.proofs.WorkedWhole.{whole_mkdir_is_made}
use Rattle.calls_by_system_calls.proofs.laws.worked_whole_is_made.Goals as goal

pub returns : goal.returns
returns c = whole_mkdir_is_made
