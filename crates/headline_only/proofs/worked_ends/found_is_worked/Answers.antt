use Rattle.headline_only.proofs.WorkedEnds.{found_is_worked}
use Rattle.headline_only.proofs.worked_ends.found_is_worked.Goals as goal

pub returns : goal.returns
returns c = found_is_worked
