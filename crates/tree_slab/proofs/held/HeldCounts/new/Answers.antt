use Rattle.tree_slab.proofs.HeldCounts.{zeros_counted}
use Rattle.tree_slab.proofs.held.HeldCounts.new.Goals as goal

pub returns : goal.returns
returns c = zeros_counted 64 c.new.result c.new.ensures.empty
