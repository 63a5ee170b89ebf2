use Rattle.bulk_ops.proofs.RacedCalls.{raced_makes_need_a_change}
use Rattle.bulk_ops.proofs.make_all_laws.raced_makes_need_a_change.Goals as goal

pub returns : goal.returns
returns c = raced_makes_need_a_change
