use Rattle.tree_model.proofs.BaseLaws.{base_is_tree, base_opens, base_places, base_entries, base_gone, base_renames, base_renamed}
use Rattle.tree_model.proofs.laws.base_tree_answers.Goals as goal

pub returns : goal.returns
returns c = record { tree = base_is_tree; opens = base_opens; places = base_places; entries = base_entries; gone = base_gone; renames = base_renames; renamed = base_renamed }
