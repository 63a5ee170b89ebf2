use Rattle.give_entry.proofs.GiveLemmas.{fails-by-the-last}
use Rattle.give_entry.proofs.laws.why_it_fails.Goals as goal

pub returns : goal.returns
returns c = fails-by-the-last
