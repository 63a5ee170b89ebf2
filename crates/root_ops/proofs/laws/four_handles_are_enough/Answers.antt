use Rattle.root_ops.proofs.FreeHandles.EachCause.{four_are_enough}
use Rattle.root_ops.proofs.laws.four_handles_are_enough.Goals as goal

pub returns : goal.returns
returns laws = four_are_enough laws.each_call_tells.ensures
