use Rattle.std.proofs.Common.{arith}
use Rattle.bulk_ops.proofs.RemovingAll.Levels.{level_at-next}
use Rattle.bulk_ops.proofs.remove_all.frame.Frame.next.Goals as goal

pub returns-then-at-count : goal.returns-then-at-count
returns-then-at-count c = level_at-next c.args.self.dir.handle c.args.self.names c.args.self.at (omega (arith, c.if-at-count.true, c.len-count.ensures.count))
