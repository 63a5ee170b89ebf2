use Rattle.tree_model.proofs.PlaceLaws.{lookups_lead_to_nodes, not_found_is_missing}
use Rattle.tree_model.proofs.laws.lookups_lead_to_nodes.Goals as goal

pub returns : goal.returns
returns c = record { nodes = lookups_lead_to_nodes; missing = not_found_is_missing }
