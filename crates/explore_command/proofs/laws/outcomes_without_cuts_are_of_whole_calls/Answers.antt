use Rattle.explore_command.proofs.WholeCalls.{without_cuts_whole}
use Rattle.explore_command.proofs.laws.outcomes_without_cuts_are_of_whole_calls.Goals as goal

pub returns : goal.returns
returns c = without_cuts_whole
