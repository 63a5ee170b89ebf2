use Rattle.merge_laws.proofs.RepliesSayNoHandles.{replies_say_no_handles}
use Rattle.merge_laws.proofs.laws.replies_say_no_handles.Goals as goal

pub returns : goal.returns
returns c = replies_say_no_handles
