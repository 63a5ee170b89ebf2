use Rattle.tree_model.proofs.HistoryLaws.{histories_keep_trees, objects_stay_for_good, numbers_grow_by_events, handles_stay_among_others}
use Rattle.tree_model.proofs.laws.histories_keep_trees.Goals as goal

pub returns : goal.returns
returns c = record { trees = histories_keep_trees; objects = objects_stay_for_good; numbers = numbers_grow_by_events; handles = handles_stay_among_others }
