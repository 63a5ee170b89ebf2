use Rattle.std.proofs.Common.{arith}
use Rattle.event_log.proofs.Pieces.{piece_len}
use Rattle.event_log.proofs.write.names_len.Goals as goal

pub returns-then-more-most : goal.returns-then-more-most
returns-then-more-most c =
    omega (arith, c.if-more-most.true, c.loop-at.invariant.whole, c.loop-at.invariant.within, piece_len c.args.names.now c.loop-at.at c.get.result.now c.get.ensures.same)

pub loop-at-preserved : goal.loop-at-preserved
loop-at-preserved c =
    let one = piece_len c.args.names.now c.loop-at.at c.get.result.now c.get.ensures.same in
    record {
      whole = omega (arith, c.loop-at.invariant.whole, one);
      within = omega (arith, c.if-more-most.false, c.loop-at.invariant.within);
    }
