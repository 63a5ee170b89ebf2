use Rattle.bulk_ops.proofs.RacedCalls.{raced_removals_need_a_change}
use Rattle.bulk_ops.proofs.remove_all.laws.raced_removals_need_a_change.Goals as goal

pub returns : goal.returns
returns c = raced_removals_need_a_change
