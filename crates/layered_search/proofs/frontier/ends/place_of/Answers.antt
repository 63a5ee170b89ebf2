use Rattle.std.proofs.Common.{◌≡◌, ◌<◌, ◌∙◌, length, sym, ap, subst, refl, ⊎_elim, arith}
use Rattle.std.specs.Prelude.{slice_get, Some}
use Rattle.std.proofs.lemmas.Bool.{true≢false}
use Rattle.std.proofs.lemmas.Option.{same_Some, slice_get_read, slice_get_within}
use Rattle.layered_search.specs.declared.found.Found.{Found}
use Rattle.layered_search.proofs.Places.{at_or_below}
use Rattle.layered_search.proofs.frontier.ends.place_of.Goals as goal

pub returns-then-is_same_outcome-clause-there : goal.returns-then-is_same_outcome-clause-there
returns-then-is_same_outcome-clause-there g c =
    let found = c.args.found.now in
    let one = c.index-found-at.result in
    let lt : c.loop-at.at < length found = omega (arith, c.loop-at-test.true, c.loop-at.auto.at-end) in (
      one,
      (
        slice_get_read found (length found) c.loop-at.at one refl lt c.index-found-at.is,
        c.is_same_outcome.ensures.0 c.if-is_same_outcome.true,
      ),
    )

pub loop-at-preserved : goal.loop-at-preserved
loop-at-preserved g c = λ m one lt there same.
    let o = g.S.TransitionSystem.outcomes c.args.system.now in
    let found = c.args.found.now in
    let own = c.index-found-at.result in
    let within : c.loop-at.at < length found = omega (arith, c.loop-at-test.true, c.loop-at.auto.at-end) in
    let here : slice_get found c.loop-at.at ≡ Some own =
    slice_get_read found (length found) c.loop-at.at own refl within c.index-found-at.is in
    ⊎_elim (λ l. c.loop-at.invariant m one l there same)
    (λ e.
    let is : one ≡ own = same_Some one own (sym there ∙ (ap (slice_get found) e ∙ here)) in
    true≢false
    (sym (c.is_same_outcome.ensures.1
    (subst (λ (x : Found g.row.S-Outcome.Denot). o.AreSame x.outcome c.args.outcome.now) is same))
    ∙ c.if-is_same_outcome.false))
    (at_or_below m c.loop-at.at lt)

pub returns-clause-none : goal.returns-clause-none
returns-clause-none g c = λ m one there.
    let lt = slice_get_within c.args.found.now m one there in
    c.loop-at.invariant m one (omega (arith, lt, c.loop-at-test.false, c.loop-at.auto.at-end)) there
