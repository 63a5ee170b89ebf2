use Rattle.sessions.proofs.Threads.{walks_in_threads}
use Rattle.sessions.proofs.laws.walks_tell_in_threads.Goals as goal

pub returns : goal.returns
returns c = walks_in_threads c.headline.ensures
