-- An actor's own events in a legal history, among those of others.
use Rattle.std.specs.Prelude.{◌≡◌, ℕ, ◌==◌, List, [], ◌∷◌, Bool, true, false, refl}
use Rattle.std.proofs.Common.{sym, subst, ◌∙◌}
use Rattle.tree_model.specs.declared.answer.Answer.{Answer}
use Rattle.tree_model.specs.declared.answer.Event.{Event}
use Rattle.tree_model.specs.StepWith.{StepWith}
use Rattle.tree_model.specs.State.{State}
use Rattle.tree_model.specs.Steps.{outcome, held}
use Rattle.tree_model.specs.History.{IsLegal, after_event, after_events}
use Rattle.tree_model.proofs.StepLaws.{others_handles_stay}
use Rattle.step_resolver.specs.WalkHistory.{own_events}
use Rattle.step_resolver.proofs.Underway.LegalHistory.{cons_not_nil, same_head, same_tail, other_keeps}
use Rattle.bulk_ops.proofs.OwnEvents.{own_first, own_later}

abbrev pub event_of : ℕ → StepWith ℕ → Answer → Event
event_of a step answer = record { actor = a; step = step; answer = answer }

module _ (a : ℕ) where
  -- the actor's next event, and what is left after it
  pub record NextOwn (s : State) (window : List Event) (step : StepWith ℕ) (answer : Answer) (others : List Event) : Type 0 where
    pub at : State
    pub rest : List Event
    pub kept : (h : ℕ) → held at a h ≡ held s a h
    pub told : answer ≡ (outcome at a step).answer
    pub legal : IsLegal (outcome at a step).after rest
    pub own : own_events a rest ≡ others
    pub ends : after_events s window ≡ after_events (outcome at a step).after rest

  made_here : (s : State) (event : Event) (rest : List Event) (step : StepWith ℕ) (answer : Answer) (others : List Event)
      → event ≡ event_of a step answer → own_events a rest ≡ others → IsLegal s (event ∷ rest) → NextOwn s (event ∷ rest) step answer others
  made_here s event rest step answer others same own legal =
      subst (λ (e : Event). NextOwn s (e ∷ rest) step answer others) (sym same)
      (here (subst (λ (e : Event). IsLegal s (e ∷ rest)) same legal))
    where
      here : IsLegal s (event_of a step answer ∷ rest) → NextOwn s (event_of a step answer ∷ rest) step answer others
      here is = record { at = s; rest = rest; kept = λ h. refl; told = is.0; legal = is.1; own = own; ends = refl }

  made_later : (s : State) (event : Event) (rest : List Event) (step : StepWith ℕ) (answer : Answer) (others : List Event)
      → (event.actor == a) ≡ false → NextOwn (after_event s event) rest step answer others → NextOwn s (event ∷ rest) step answer others
  made_later s event rest step answer others q next = record {
    at = next.at;
    rest = next.rest;
    kept = λ h. next.kept h ∙ other_keeps others_handles_stay a s event q h;
    told = next.told;
    legal = next.legal;
    own = next.own;
    ends = next.ends;
  }

  pub next_own : (window : List Event) (s : State) (step : StepWith ℕ) (answer : Answer) (others : List Event) → IsLegal s window
      → own_events a window ≡ event_of a step answer ∷ others → NextOwn s window step answer others
  next_own [] s step answer others legal e = absurd (cons_not_nil _ others (sym e))
  next_own (event ∷ rest) s step answer others legal e = on (event.actor == a) refl (λ own. next_own rest (after_event s event) step answer others legal.1 own)
    where
      on : (b : Bool) → (event.actor == a) ≡ b → (own_events a rest ≡ event_of a step answer ∷ others → NextOwn (after_event s event) rest step answer others)
          → NextOwn s (event ∷ rest) step answer others
      on true q later =
          let same = sym (own_first a event rest q) ∙ e in
          made_here s event rest step answer others (same_head event _ (own_events a rest) others same) (same_tail event _ (own_events a rest) others same) legal
      on false q later = made_later s event rest step answer others q (later (sym (own_later a event rest q) ∙ e))
