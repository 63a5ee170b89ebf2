use Rattle.tree_model.proofs.HandlesEqual.{handles_decided}
use Rattle.tree_model.proofs.snapshot.same_handles.Goals as goal

pub returns : goal.returns
returns c = handles_decided c.eq.result c.args.handles.now c.args.others.now c.eq.ensures
