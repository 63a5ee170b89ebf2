use Rattle.tree_model.proofs.PlaceLaws.{child_stands_at_entry}
use Rattle.tree_model.proofs.laws.entries_lead_to_nodes.Goals as goal

pub returns : goal.returns
returns c = record { child = child_stands_at_entry }
