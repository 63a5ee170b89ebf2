use Rattle.tree_model.proofs.PlaceLaws.{listed_are_entries, listed_once}
use Rattle.tree_model.proofs.laws.listed_in_order.Goals as goal

pub returns : goal.returns
returns c = record { entries = listed_are_entries; once = listed_once }
