use Rattle.tree_slab.proofs.Kept.{kept}
use Rattle.tree_slab.proofs.laws.notes_are_kept.Goals as goal

pub returns : goal.returns
returns c = λ cap since before d n x. kept d n x cap since before
