use Rattle.tree_slab.proofs.Runs.{caches}
use Rattle.tree_slab.proofs.laws.calls_keep_caches.Goals as goal

pub returns : goal.returns
returns c = caches
