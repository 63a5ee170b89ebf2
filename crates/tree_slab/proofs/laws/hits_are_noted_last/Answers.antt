use Rattle.tree_slab.proofs.Runs.{hits}
use Rattle.tree_slab.proofs.laws.hits_are_noted_last.Goals as goal

pub returns : goal.returns
returns c = hits
