use Rattle.report_text.proofs.RowKinds.{rows_have_lines}
use Rattle.report_text.proofs.laws.rows_have_lines.Goals as goal

pub returns : goal.returns
returns c = rows_have_lines c.rows_are_entries.ensures.places
