use Rattle.tree_model.proofs.StepLaws.{telling_changes_nothing, nodes_are_left, handles_are_left}
use Rattle.tree_model.proofs.laws.steps_leave_the_rest.Goals as goal

pub returns : goal.returns
returns c = record { telling = telling_changes_nothing; nodes = nodes_are_left; handles = handles_are_left }
