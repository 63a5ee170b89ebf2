use Rattle.find_proc.proofs.FindLemmas.{finds-hold}
use Rattle.find_proc.proofs.laws.a_proc_is_found.Goals as goal

pub returns : goal.returns
returns c = finds-hold
