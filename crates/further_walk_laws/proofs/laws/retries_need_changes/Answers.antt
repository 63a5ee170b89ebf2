use Rattle.further_walk_laws.proofs.Retries.{retries_need_changes}
use Rattle.further_walk_laws.proofs.laws.retries_need_changes.Goals as goal

pub returns : goal.returns
returns c = retries_need_changes c.raced_tells_of_change.ensures
