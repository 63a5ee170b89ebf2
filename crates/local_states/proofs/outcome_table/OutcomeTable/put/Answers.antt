use Rattle.std.proofs.Common.{◌≡◌, sym, ap, ◌∙◌, subst, List, [], ◌∷◌, ◌++◌, length}
use Rattle.std.specs.Prelude.{map, slice_get, Some}
use Rattle.tree_model.proofs.Places.{slice_get-last}
use Rattle.layered_search.proofs.Places.{get_left}
use Rattle.race_core.specs.declared.report.Outcome.{Outcome}
use Rattle.race_core.specs.Renamed.{outcome_by}
use Rattle.local_states.specs.Distinct.{AreEachOnce}
use Rattle.local_states.proofs.Parted.Once.{once_more, map_push}
use Rattle.local_states.proofs.outcome_table.OutcomeTable.put.Goals as goal

abbrev those_in : List Outcome → List Outcome
those_in outcomes = map (outcome_by (λ h. 0)) outcomes

pub invariant_of-self-2 : goal.invariant_of-self-2
invariant_of-self-2 c =
    let old = c.self.inside.outcomes.items in
    let that : Outcome = outcome_by (λ h. 0) c.args.outcome.now in
    let more : those_in c.push.new.self.items ≡ those_in old ++ that ∷ [] =
    map_push (outcome_by (λ h. 0)) old c.push.new.self.items c.in_ok-copy.field-0 that c.in_ok-push.ensures.items
    (ap (outcome_by (λ h. 0)) c.in_ok-copy.ensures) in
    subst (λ xs. AreEachOnce xs) (sym more) (once_more (those_in old) that c.self.invariant
    (λ k e. c.in_default.ensures.nowhere k
    (subst (λ (xs : List Outcome). slice_get xs k ≡ Some that) c.self.view_is e)))

pub invariant_of-self-in_err-push : goal.invariant_of-self-in_err-push
invariant_of-self-in_err-push c =
    subst (λ xs. AreEachOnce (those_in xs)) (sym c.in_err-push.ensures.items) c.self.invariant

pub returns-clause-keeps : goal.returns-clause-keeps
returns-clause-keeps c = λ k x e.
    let old = c.self.inside.outcomes.items in
    let that : Outcome = outcome_by (λ h. 0) c.args.outcome.now in
    let more : those_in c.push.new.self.items ≡ those_in old ++ that ∷ [] =
    map_push (outcome_by (λ h. 0)) old c.push.new.self.items c.in_ok-copy.field-0 that c.in_ok-push.ensures.items
    (ap (outcome_by (λ h. 0)) c.in_ok-copy.ensures) in
    subst (λ (xs : List Outcome). slice_get xs k ≡ Some x) (sym more)
    (get_left (those_in old) that k x
    (subst (λ (xs : List Outcome). slice_get xs k ≡ Some x) (sym c.self.view_is) e))

pub returns-clause-there : goal.returns-clause-there
returns-clause-there c =
    let old = c.self.inside.outcomes.items in
    let that : Outcome = outcome_by (λ h. 0) c.args.outcome.now in
    let more : those_in c.push.new.self.items ≡ those_in old ++ that ∷ [] =
    map_push (outcome_by (λ h. 0)) old c.push.new.self.items c.in_ok-copy.field-0 that c.in_ok-push.ensures.items
    (ap (outcome_by (λ h. 0)) c.in_ok-copy.ensures) in
    subst (λ (xs : List Outcome). slice_get xs c.len-at.result ≡ Some that) (sym more)
    (subst (λ n. slice_get (those_in old ++ that ∷ []) n ≡ Some that)
    (sym (c.len-at.ensures ∙ sym (ap length c.self.view_is)))
    (slice_get-last (those_in old) that))
