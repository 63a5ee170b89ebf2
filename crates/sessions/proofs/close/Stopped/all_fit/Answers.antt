use Rattle.std.proofs.Common.{slice_get, refl, arith}
use Rattle.sessions.specs.Close.{FitsAt}
use Rattle.sessions.proofs.Closes.{below_more, all_fit_below}
use Rattle.sessions.proofs.close.Stopped.all_fit.Goals as goal

pub loop-at-preserved : goal.loop-at-preserved
loop-at-preserved g c =
    below_more (λ p. FitsAt c.args.self.now c.args.number (slice_get c.args.sessions.now p)) c.loop-at.at c.loop-at.invariant (c.fits_at.ensures.0 c.if-not-fits_at.false)

pub returns : goal.returns
returns g c = ((λ t. all_fit_below c.args.self.now c.args.sessions.now c.args.number c.loop-at.at (omega (arith, c.loop-at-test.false)) c.loop-at.invariant), (λ f. refl))
