use Rattle.list_directory.proofs.PartLemmas.{bounded}
use Rattle.list_directory.proofs.laws.all_levels_are_bounded.Goals as goal

pub returns : goal.returns
returns c = bounded
