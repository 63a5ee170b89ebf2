use Rattle.explore.proofs.Lists.SearchLaws.{chosen_lists_stand, reports_are_full, full_lists_are_reported}
use Rattle.explore.proofs.laws.chosen_lists_stand_for_all.Goals as goal

pub returns : goal.returns
returns c = record { chosen = chosen_lists_stand; reports = reports_are_full; lists = full_lists_are_reported }
