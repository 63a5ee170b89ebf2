use Rattle.tree_model.proofs.StepsKept.{steps_keep_trees, grants_keep_trees}
use Rattle.tree_model.proofs.laws.steps_keep_trees.Goals as goal

pub returns : goal.returns
returns c = record { steps = steps_keep_trees; grants = grants_keep_trees }
