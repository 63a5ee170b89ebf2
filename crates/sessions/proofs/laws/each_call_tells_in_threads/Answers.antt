use Rattle.sessions.proofs.EachCall.{each_call_tells_in_threads}
use Rattle.sessions.proofs.laws.each_call_tells_in_threads.Goals as goal

pub returns : goal.returns
returns c = each_call_tells_in_threads c.each_call_tells.ensures
