use Rattle.drawings.proofs.SvgForms.{svg_is_well_formed}
use Rattle.drawings.proofs.laws.svg_is_well_formed.Goals as goal

pub returns : goal.returns
returns c = svg_is_well_formed
