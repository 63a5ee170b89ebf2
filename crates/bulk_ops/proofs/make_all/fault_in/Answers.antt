use Rattle.std.proofs.Common.{rules, ap}
use Rattle.bulk_ops.specs.MakeAllView.{fault_in}
use Rattle.bulk_ops.proofs.MakeAllNames.{part_at}
use Rattle.bulk_ops.proofs.make_all.fault_in.Goals as goal
use Rattle.bulk_ops.proofs.make_all.fault_in.Goals.{in-Cur, in-Named+else-is_too_long}

pub loop-at-preserved : goal.loop-at-preserved
loop-at-preserved c =
    let first = ap fault_in (part_at c.args.rest.now c.loop-at.at c.get.result c.get.ensures) in
    elim c.match-get.branch [ in-Cur w ↦ search rules | in-Named+else-is_too_long w ↦ search rules ]
