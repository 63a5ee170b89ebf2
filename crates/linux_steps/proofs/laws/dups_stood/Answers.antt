use Rattle.linux_steps.proofs.LinkLemmas.{dups-stood}
use Rattle.linux_steps.proofs.laws.dups_stood.Goals as goal

pub returns : goal.returns
returns c = dups-stood
