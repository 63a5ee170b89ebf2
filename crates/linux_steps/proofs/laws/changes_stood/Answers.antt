use Rattle.linux_steps.proofs.RenameLemmas.{changes-stood}
use Rattle.linux_steps.proofs.laws.changes_stood.Goals as goal

pub returns : goal.returns
returns c = changes-stood
