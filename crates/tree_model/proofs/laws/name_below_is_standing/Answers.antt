use Rattle.tree_model.proofs.PlaceLaws.{stands_at_one_way, names_below_are_standing, name_below_is_standing}
use Rattle.tree_model.proofs.laws.name_below_is_standing.Goals as goal

pub returns : goal.returns
returns c = record { one_way = stands_at_one_way; names = names_below_are_standing; answer = name_below_is_standing }
