-- An entry leads to a node.
use Rattle.std.proofs.Common.{◌≡◌, [], refl}
use Rattle.std.specs.Prelude.{Option, Some, None, slice_get}
use Rattle.std.specs.Option.{option_map, option_and_then}
use Rattle.tree_model.specs.declared.inode.Inode.{Inode}
use Rattle.tree_model.specs.declared.inode.Place.{Place}
use Rattle.tree_model.specs.declared.row.Row.{Row}
use Rattle.tree_model.specs.declared.step.Kind.{Kind}
use Rattle.tree_model.specs.Entries.{with_some}
use Rattle.tree_model.specs.RowLaws.{RowsArePlaces}
use Rattle.tree_model.specs.Steps.{kind_of}
use Rattle.report_text.specs.Report.{entry_line}
use Rattle.report_text.specs.ReportLaws.{RowsHaveLines}

-- where a node has a place, it is something
line_of_node : (row : Row) (found : Option Inode) (place : Place) → option_and_then (λ (inode : Inode). inode.place) found ≡ Some place
    → (kind : Kind) × (with_some (option_map (λ (inode : Inode). inode.object) found) [] (λ object. entry_line row (kind_of object)) ≡ entry_line row kind)
line_of_node row None place e = absurd (cc)
line_of_node row (Some inode) place e = (kind_of inode.object, refl)

pub rows_have_lines : RowsArePlaces → RowsHaveLines
rows_have_lines places nodes row there =
    line_of_node row (slice_get nodes row.child) (record { parent = row.parent; name = row.name }) ((places nodes row).0 there)
