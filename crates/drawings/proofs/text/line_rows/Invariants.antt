use Rattle.std.proofs.Common.{◌≡◌, ◌++◌, ◌-◌, length}
use Rattle.report_text.specs.Report.{numbered}
use Rattle.drawings.specs.Cells.{pieces}
use Rattle.drawings.specs.Text.{cell_width, line_row, line_rows}
use Rattle.drawings.proofs.text.line_rows.Given as goal

-- the rows that are written and those of the rest make the whole
abbrev pub invariant-loop-at : goal.invariant-loop-at
invariant-loop-at l =
    l.out ++ numbered (line_row l.fn.actors l.fn.columns l.fn.colours l.line) l.at (pieces (length l.line.text - l.at) (cell_width l.fn.actors l.fn.columns) l.rest) ≡ l.fn.out ++ line_rows l.fn.actors l.fn.columns l.fn.colours l.line
