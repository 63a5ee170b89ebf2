-- What holds of the text of a report: statements of laws.
use Rattle.std.specs.Prelude.{◌≡◌, List}
use Rattle.std.specs.List.{Contains}
use Rattle.tree_model.specs.declared.inode.Inode.{Inode}
use Rattle.tree_model.specs.declared.row.Row.{Row}
use Rattle.tree_model.specs.declared.step.Kind.{Kind}
use Rattle.tree_model.specs.Rows.{rows_in_order}
use Rattle.report_text.specs.Report.{entry_line, row_line}

-- each entry has a line, with a kind
abbrev pub RowsHaveLines : Type 0
RowsHaveLines = (nodes : List Inode) (row : Row) → Contains (rows_in_order nodes) row
    → (kind : Kind) × (row_line nodes row ≡ entry_line row kind)
