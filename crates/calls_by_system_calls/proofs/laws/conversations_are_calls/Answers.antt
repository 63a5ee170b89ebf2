use Rattle.calls_by_system_calls.proofs.Conversing.{conversations}
use Rattle.calls_by_system_calls.proofs.laws.conversations_are_calls.Goals as goal

pub returns : goal.returns
returns c = conversations
