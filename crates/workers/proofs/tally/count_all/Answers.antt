use Rattle.std.proofs.Common.{◌≡◌, get_or, length, ◌<◌, arith, rules}
use Rattle.workers.proofs.Tallies.{count_on}
use Rattle.workers.proofs.tally.count_all.Goals as goal

pub loop-told-preserved : goal.loop-told-preserved
loop-told-preserved c = λ job within.
    let inside : job < length c.loop-told.counts = omega (arith, within, c.count_replies.auto.counts) in
    let item : c.as_slice.result.now ≡ get_or c.args.lists.now c.loop-told.told-index c.as_slice.result.now = search rules in
    count_on job c.loop-told.told-index (get_or c.loop-told.counts job 0) (get_or c.count_replies.new.counts job 0) c.args.lists.now c.as_slice.result.now
    c.loop-told-test.true item (c.loop-told.invariant job inside) (c.count_replies.ensures job inside)
