use Rattle.std.proofs.Common.{◌<◌, subst, sym, arith}
use Rattle.sessions.specs.Close.{StoppedView, AllFit}
use Rattle.sessions.proofs.Closes.{below_more}
use Rattle.sessions.proofs.close.Stopped.unfit.Goals as goal

pub loop-number-preserved : goal.loop-number-preserved
loop-number-preserved g c =
    below_more (AllFit c.args.self.now c.args.sessions.now) c.loop-number.number c.loop-number.invariant (c.all_fit.ensures.0 c.if-not-all_fit.false)

pub returns : goal.returns
returns g c = λ i within.
    let below : i < c.self.inside.count = subst (λ (z : StoppedView). i < z.count) (sym c.self.view_is) within in
    c.loop-number.invariant i (omega (arith, below, c.loop-number-test.false))
