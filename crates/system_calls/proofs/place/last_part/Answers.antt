use Rattle.std.proofs.Common.{refl, inl, inr, arith, eq-eqb}
use Rattle.path_text.specs.declared.name.TheConstants.{SLASH}
use Rattle.system_calls.proofs.PlaceLemmas.{last_rest}
use Rattle.system_calls.proofs.place.last_part.Goals as goal
use Rattle.system_calls.proofs.place.last_part.Goals.{then-loop-at-test+else-text-at-ne-SLASH, else-loop-at-test}

pub returns : goal.returns
returns c =
    last_rest c.args.text.now _ c.loop-at.at refl c.loop-at.invariant.0 c.loop-at.invariant.1
    (elim c.loop-at-test.branch
    [ then-loop-at-test+else-text-at-ne-SLASH w ↦ inr (eq-eqb _ SLASH w.if-text-at-ne-SLASH.false) | else-loop-at-test w ↦ inl (omega (arith, w.loop-at-test.false)) ])
