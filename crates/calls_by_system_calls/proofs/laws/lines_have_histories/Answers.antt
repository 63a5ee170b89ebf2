use Rattle.calls_by_system_calls.proofs.LinesJoined.{lines_have}
use Rattle.calls_by_system_calls.proofs.laws.lines_have_histories.Goals as goal

pub returns : goal.returns
returns c = lines_have
