use Rattle.make_through_links.proofs.CallLemmas.{calls-hold}
use Rattle.make_through_links.proofs.laws.calls_hold.Goals as goal

pub returns : goal.returns
returns c = calls-hold
