use Rattle.linux_steps.proofs.LinkLemmas.{closes-stood}
use Rattle.linux_steps.proofs.laws.closes_stood.Goals as goal

pub returns : goal.returns
returns c = closes-stood
