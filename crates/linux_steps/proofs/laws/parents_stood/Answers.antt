use Rattle.linux_steps.proofs.ParentLemmas.{parents-stood}
use Rattle.linux_steps.proofs.laws.parents_stood.Goals as goal

pub returns : goal.returns
returns c = parents-stood
