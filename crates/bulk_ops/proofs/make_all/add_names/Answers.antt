use Rattle.std.proofs.Common.{◌+◌, drop, rules, ap}
use Rattle.bulk_ops.specs.MakeAllView.{fault_in, names_in}
use Rattle.bulk_ops.proofs.MakeAllNames.{part_at, name_added}
use Rattle.bulk_ops.proofs.make_all.add_names.Goals as goal
use Rattle.bulk_ops.proofs.make_all.add_names.Goals.{in-Named+in_ok-push_bytes, in_default}

pub loop-at-preserved : goal.loop-at-preserved
loop-at-preserved c =
    let first = part_at c.args.rest.now c.loop-at.at c.get.result c.get.ensures in
    let fault = ap fault_in first in
    let names = ap names_in first in
    elim c.match-get.branch [ in-Named+in_ok-push_bytes w ↦ let added = name_added c.loop-at.names w.in-Named.name (names_in (drop (c.loop-at.at + 1) c.args.rest.now)) in search rules | in_default w ↦ search rules ]
