use Rattle.linux_steps.proofs.LinkLemmas.{links-were-read}
use Rattle.linux_steps.proofs.laws.links_were_read.Goals as goal

pub returns : goal.returns
returns c = links-were-read
