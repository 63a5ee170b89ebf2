use Rattle.find_proc.proofs.FindLemmas.{looks-hold}
use Rattle.find_proc.proofs.laws.the_kept_one_is_looked_at.Goals as goal

pub returns : goal.returns
returns c = looks-hold
