use Rattle.find_proc.proofs.HandLemmas.{handing-holds}
use Rattle.find_proc.proofs.laws.a_proc_is_handed_in.Goals as goal

pub returns : goal.returns
returns c = handing-holds
