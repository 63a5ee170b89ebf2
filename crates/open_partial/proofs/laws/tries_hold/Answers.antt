use Rattle.open_partial.proofs.SearchLemmas.{tries-hold}
use Rattle.open_partial.proofs.laws.tries_hold.Goals as goal

pub returns : goal.returns
returns c = tries-hold
