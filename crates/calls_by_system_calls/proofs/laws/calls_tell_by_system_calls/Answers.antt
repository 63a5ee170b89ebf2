use Rattle.calls_by_system_calls.proofs.LinesJoined.{calls_tell}
use Rattle.calls_by_system_calls.proofs.laws.calls_tell_by_system_calls.Goals as goal

pub returns : goal.returns
returns c = calls_tell c.conversations_are_calls.ensures c.calls_tell_by_any_numbers.ensures
