-- A handle that isn't open by an actor's own events isn't open in a legal history.
use Rattle.std.proofs.Common.{◌≡◌, ◌==◌, ◌&&◌, ℕ, Bool, true, false, not, List, [], ◌∷◌, length, None, Some, slice_set, refl, sym, ap, ◌∙◌, subst, ⊎_elim, eqb-true, ne_eqb}
use Rattle.std.specs.Prelude.{slice_get}
use Rattle.std.proofs.lemmas.Bool.{false≢true, eqb-false, cases_eq, or_parts}
use Rattle.tree_model.specs.declared.answer.Answer.{Answer}
use Rattle.tree_model.specs.declared.answer.Answer.TheVariants.{Opened, Done}
use Rattle.tree_model.specs.declared.answer.Event.{Event}
use Rattle.tree_model.specs.declared.step.StepOf.TheVariants.{Close}
use Rattle.tree_model.specs.StepWith.{StepWith}
use Rattle.tree_model.specs.History.{IsLegal, after_event, after_events}
use Rattle.tree_model.specs.State.{State}
use Rattle.tree_model.specs.Steps.{Outcome, held, node_held}
use Rattle.tree_model.specs.StepLaws.{only_tells, is_on_entries}
use Rattle.tree_model.proofs.Outcomes.{Does, does, refuses, tells, opens_on, closes, changes_to}
use Rattle.tree_model.proofs.StepLaws.{slice_get-set_other, others_handles_stay, held_closed}
use Rattle.bulk_ops.proofs.OwnEvents.{own_first, own_later}
use Rattle.step_resolver.specs.WalkHistory.{own_events}
use Rattle.event_log.specs.Handles.{left_after, open_after}
use Rattle.step_resolver.proofs.Underway.StepOutcomes.{slice_get-other}

-- ---- one step

-- answers and steps that leave a handle as it is
after_telling : (answer : Answer) (step : StepWith ℕ) (h : ℕ) (was : Bool) → only_tells answer ≡ true → left_after h was answer step ≡ false → was ≡ false
after_telling (Opened k x kind) step h was e out = absurd (false≢true e)
after_telling Done step h was e out = absurd (false≢true e)
after_telling answer step h was e out = out

after_change : (step : StepWith ℕ) (h : ℕ) (was : Bool) → is_on_entries step ≡ true → left_after h was Done step ≡ false → was ≡ false
after_change (Close k) h was e out = absurd (false≢true e)
after_change step h was e out = out

left_so : (was other : Bool) → other ≡ false → (was && not other) ≡ false → was ≡ false
left_so true true f e = absurd (false≢true (sym f))
left_so true false f e = absurd (false≢true (sym e))
left_so false other f e = refl

step_leaves : {s : State} {a : ℕ} {step : StepWith ℕ} {o : Outcome} → Does s a step o → (h : ℕ) (was : Bool) → (was ≡ false → held s a h ≡ None)
    → left_after h was o.answer step ≡ false → held o.after a h ≡ None
step_leaves (refuses error) h was before out = before out
step_leaves {s} {a} {step} (tells answer e') h was before out = before (after_telling answer step h was e' out)
step_leaves {s} {a} (opens_on x what e1 e2 e3) h was before out =
    let none = or_parts was (length s.handles == h) out in
    ap (node_held a) (slice_get-other s.handles (Some (record { actor = a; node = x })) h (λ e. eqb-false (length s.handles) h none.1 (sym e))) ∙ before none.0
step_leaves {s} {a} (closes k x e1) h was before out =
    ⊎_elim
    (λ same. subst (λ i. node_held a (slice_get (slice_set s.handles k None) i) ≡ None) (sym same) (held_closed s.handles k a))
    (λ other. ap (node_held a) (slice_get-set_other s.handles k None h other) ∙ before (left_so was (k == h) (ne_eqb k h (λ e. other (sym e))) out))
    (cases_eq h k)
step_leaves {s} {a} {step} (changes_to nodes e1 changed) h was before out = before (after_change step h was e1 out)

-- ---- a history

pub closed_in_history : (a h : ℕ) (events : List Event) (s : State) → IsLegal s events → (was : Bool) → (was ≡ false → held s a h ≡ None)
    → open_after h was (own_events a events) ≡ false → held (after_events s events) a h ≡ None
closed_in_history a h [] s legal was before out = before out
closed_in_history a h (event ∷ rest) s legal was before out =
    on (event.actor == a) refl (λ w b o. closed_in_history a h rest (after_event s event) legal.1 w b o)
  where
    on : (mine : Bool) → (event.actor == a) ≡ mine
        → ((w : Bool) → (w ≡ false → held (after_event s event) a h ≡ None) → open_after h w (own_events a rest) ≡ false → held (after_events (after_event s event) rest) a h ≡ None)
        → held (after_events (after_event s event) rest) a h ≡ None
    on true q go =
        let same = eqb-true event.actor a q in
        go (left_after h was event.answer event.step)
        (λ e. subst (λ b. held (after_event s event) b h ≡ None) same
        (step_leaves (does s event.actor event.step) h was (λ f. ap (λ b. held s b h) same ∙ before f) (ap (λ v. left_after h was v event.step) (sym legal.0) ∙ e)))
        (ap (open_after h was) (sym (own_first a event rest q)) ∙ out)
    on false q go =
        go was (λ f. others_handles_stay s event.actor event.step a h (λ same. eqb-false event.actor a q (sym same)) ∙ before f)
        (ap (open_after h was) (sym (own_later a event rest q)) ∙ out)
