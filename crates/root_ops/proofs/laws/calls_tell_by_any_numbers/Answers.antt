use Rattle.root_ops.proofs.Blind.Lines.{calls_tell_by_any_numbers}
use Rattle.root_ops.proofs.laws.calls_tell_by_any_numbers.Goals as goal

pub returns : goal.returns
returns laws = calls_tell_by_any_numbers laws.each_call_tells.ensures
