use Rattle.bulk_ops.proofs.MakingAlone.WorkedCall.{make_is_worked}
use Rattle.bulk_ops.proofs.make_all_laws.worked_make_call.Goals as goal

pub returns : goal.returns
returns c = make_is_worked
