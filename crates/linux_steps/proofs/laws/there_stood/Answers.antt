use Rattle.linux_steps.proofs.ParentLemmas.{there-stood}
use Rattle.linux_steps.proofs.laws.there_stood.Goals as goal

pub returns : goal.returns
returns c = there-stood
