use Rattle.tree_model.proofs.PlaceLaws.{gone_nodes_are_empty, entries_stand, gone_nodes_are_parentless}
use Rattle.tree_model.proofs.laws.gone_nodes_have_no_entries.Goals as goal

pub returns : goal.returns
returns c = record { empty = gone_nodes_are_empty; entries = entries_stand; parents = gone_nodes_are_parentless }
