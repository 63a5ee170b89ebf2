use Rattle.headline_only.proofs.WorkedEnds.{wrong_ends_are_refused}
use Rattle.headline_only.proofs.worked_ends.wrong_ends_are_refused.Goals as goal

pub returns : goal.returns
returns c = wrong_ends_are_refused
