use Rattle.find_proc.proofs.PrivateLemmas.{making-holds, none-is-made}
use Rattle.find_proc.proofs.laws.a_proc_is_made.Goals as goal

pub returns-clause-made : goal.returns-clause-made
returns-clause-made c = making-holds

pub returns-clause-none : goal.returns-clause-none
returns-clause-none c = none-is-made
