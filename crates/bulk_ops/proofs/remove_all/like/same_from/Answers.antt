use Rattle.std.proofs.Common.{◌<◌, ◌+◌, length, arith}
use Rattle.bulk_ops.proofs.LikeFrames.{next_same}
use Rattle.bulk_ops.proofs.remove_all.like.same_from.Goals as goal

pub loop-k-preserved : goal.loop-k-preserved
loop-k-preserved c =
    let within : c.args.at + c.loop-k.k < length c.args.names.now = omega (arith, c.len.ensures.count, c.loop-k-test.true) in
    let other_within : c.args.place + c.loop-k.k < length c.args.others.now = omega (arith, c.len.ensures.count, c.len-2.ensures.count, c.if-len-place.false, c.loop-k-test.true) in
    next_same c.args.names.now c.args.others.now c.args.at c.args.place c.loop-k.k within other_within c.loop-k.invariant (c.same_name.ensures.0 c.if-not-same_name.false)
