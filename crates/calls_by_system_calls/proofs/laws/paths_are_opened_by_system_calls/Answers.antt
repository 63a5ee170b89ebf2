use Rattle.calls_by_system_calls.proofs.WholePaths.{paths_are_opened}
use Rattle.calls_by_system_calls.proofs.laws.paths_are_opened_by_system_calls.Goals as goal

pub returns : goal.returns
returns c = paths_are_opened c.resolves_seen_below.ensures c.fails_at_once_tell.ensures
