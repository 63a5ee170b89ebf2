use Rattle.scripts.proofs.FirstRefused.{first_refused_is_told}
use Rattle.scripts.proofs.laws.first_refused_entry_is_told.Goals as goal

pub returns : goal.returns
returns c = first_refused_is_told
