use Rattle.linux_steps.proofs.OpenLemmas.{opens-stood}
use Rattle.linux_steps.proofs.laws.opens_stood.Goals as goal

pub returns : goal.returns
returns c = opens-stood
