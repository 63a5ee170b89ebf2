use Rattle.drawings.proofs.Widths.{rows_fit, nothing_is_cut, pieces_fit, marks_fit, heading_fits, legend_fits}
use Rattle.drawings.proofs.laws.rows_fit.Goals as goal

pub returns-clause-rows : goal.returns-clause-rows
returns-clause-rows c = rows_fit

pub returns-clause-whole : goal.returns-clause-whole
returns-clause-whole c = nothing_is_cut

pub returns-clause-pieces : goal.returns-clause-pieces
returns-clause-pieces c = pieces_fit

pub returns-clause-marks : goal.returns-clause-marks
returns-clause-marks c = marks_fit

pub returns-clause-heading : goal.returns-clause-heading
returns-clause-heading c = heading_fits

pub returns-clause-legend : goal.returns-clause-legend
returns-clause-legend c = legend_fits
