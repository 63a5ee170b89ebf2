use Rattle.merge_laws.proofs.Covered.{parts_without_gaps_are_all}
use Rattle.merge_laws.proofs.laws.parts_without_gaps_are_all.Goals as goal

pub returns : goal.returns
returns c = parts_without_gaps_are_all
