use Rattle.bulk_ops.proofs.RemovingAll.EachEnd.{every_call_tells}
use Rattle.bulk_ops.proofs.remove_all.laws.remove_all_tells.Goals as goal

pub returns : goal.returns
returns c = every_call_tells
