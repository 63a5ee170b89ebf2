use Rattle.tree_model.proofs.RowLaws.{rows_are_in_order, rows_are_one_list, rows_are_places, entries_have_one_row}
use Rattle.tree_model.proofs.laws.rows_are_entries.Goals as goal

pub returns : goal.returns
returns c = record { order = rows_are_in_order; one_list = rows_are_one_list; places = rows_are_places; one_row = entries_have_one_row }
