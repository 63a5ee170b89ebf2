use Rattle.sessions.proofs.Threads.{calls_stand_in_order}
use Rattle.sessions.proofs.laws.calls_stand_in_order.Goals as goal

pub returns : goal.returns
returns c = calls_stand_in_order
