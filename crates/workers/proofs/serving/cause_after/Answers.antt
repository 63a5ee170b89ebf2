use Rattle.std.proofs.Common.{length}
use Rattle.workers.proofs.Tallies.{first_is_doubled, none_is_doubled, first_is_lost, none_is_lost, all_once}
use Rattle.workers.proofs.serving.cause_after.Goals as goal

pub returns-in-Some : goal.returns-in-Some
returns-in-Some c =
    first_is_doubled c.count_all.new.counts c.args.lists.now (length c.args.counts.now) (length c.count_all.new.counts) c.in-Some.job c.count_all.auto.counts c.count_all.ensures c.in-Some.ensures

pub returns-in-Some-first_lost : goal.returns-in-Some-first_lost
returns-in-Some-first_lost c = (
  none_is_doubled c.count_all.new.counts c.args.lists.now (length c.args.counts.now) (length c.count_all.new.counts) c.count_all.auto.counts c.count_all.ensures c.in_default.ensures,
  first_is_lost c.count_all.new.counts c.args.lists.now (length c.args.counts.now) (length c.count_all.new.counts) c.in-Some-first_lost.job c.count_all.auto.counts c.count_all.ensures c.in-Some-first_lost.ensures,
)

pub returns-in-None : goal.returns-in-None
returns-in-None c =
    all_once c.args.lists.now (length c.args.counts.now)
    (none_is_doubled c.count_all.new.counts c.args.lists.now (length c.args.counts.now) (length c.count_all.new.counts) c.count_all.auto.counts c.count_all.ensures c.in_default.ensures)
    (none_is_lost c.count_all.new.counts c.args.lists.now (length c.args.counts.now) (length c.count_all.new.counts) c.count_all.auto.counts c.count_all.ensures c.in-None.ensures)
