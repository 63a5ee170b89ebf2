use Rattle.std.proofs.Common.{◌≡◌, ◌++◌, drop}
use Rattle.std.specs.List.{flat_map}
use Rattle.report_text.specs.Report.{row_line}
use Rattle.report_text.proofs.state.all_rows.Given as goal

-- what is written and what is left to write make the whole
abbrev pub invariant-loop-stood : goal.invariant-loop-stood
invariant-loop-stood l = l.out ++ flat_map (row_line l.nodes) (drop l.stood-index l.rows) ≡ l.fn.out ++ flat_map (row_line l.nodes) l.rows
