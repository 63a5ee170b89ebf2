use Rattle.kernel_walks.proofs.Resolves.{resolves_seen_below}
use Rattle.kernel_walks.proofs.laws.resolves_seen_below.Goals as goal

pub returns : goal.returns
returns c = resolves_seen_below
