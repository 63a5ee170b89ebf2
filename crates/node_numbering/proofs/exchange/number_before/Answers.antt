use Rattle.std.proofs.Common.{◌∙◌, arith}
use Rattle.node_numbering.proofs.Exchanging.{taken_back}
use Rattle.node_numbering.proofs.exchange.number_before.Goals as goal

pub loop-left-preserved : goal.loop-left-preserved
loop-left-preserved c = record {
  within = omega (arith, c.loop-left.invariant.within);
  back = taken_back c.args.exchanges.now c.loop-left.left c.index-exchanges-left.result c.loop-left.number c.exchanged-number.result
      (omega (arith, c.loop-left-test.true)) c.loop-left.invariant.within c.index-exchanges-left.is c.exchanged-number.ensures ∙ c.loop-left.invariant.back;
}
