-- An actor's own events in a history, and its root, which stays open where none of them closes it.
use Rattle.std.proofs.Common.{◌≡◌, ℕ, ◌==◌, Bool, true, false, List, [], ◌∷◌, ◌++◌, Some, refl, sym, ap, ◌∙◌, subst}
use Rattle.std.proofs.lemmas.Bool.{eqb-true, eqb-false}
use Rattle.tree_model.specs.declared.answer.Event.{Event}
use Rattle.tree_model.specs.History.{after_event, after_events}
use Rattle.tree_model.specs.State.{State}
use Rattle.tree_model.specs.Steps.{held}
use Rattle.tree_model.proofs.StepLaws.{own_handles_stay, others_handles_stay}
use Rattle.step_resolver.specs.WalkHistory.{own_events}
use Rattle.root_ops.specs.declared.below.Below.{Below}
use Rattle.bulk_ops.proofs.OwnEvents.{own_first, own_later, cut}
use Rattle.root_ops.proofs.Handles.WalkParts.{HasRoot, root_later}
use Rattle.race_core.specs.OwnHistory.{NoneCloses, IsHistory, FirstIsOwn, Around}

pub around : (a : ℕ) (events earlier own later : List Event) → own_events a events ≡ earlier ++ (own ++ later) → Around a events earlier own later
around a events earlier own later e =
    let first = cut a events earlier (own ++ later) e in
    let second = cut a first.after own later first.own_after in
    record {
      before = first.before;
      window = second.before;
      after = second.after;
      whole = first.whole ∙ ap (λ es. first.before ++ es) second.whole;
      own_before = first.own_before;
      own_window = second.own_before;
      own_after = second.own_after;
    }

-- others' events first, and then one of the actor's own, if there is one
pub record Skipped (a : ℕ) (events : List Event) : Type 0 where
  pub others : List Event
  pub rest : List Event
  pub whole : events ≡ others ++ rest
  pub none_own : own_events a others ≡ []
  pub same_own : own_events a rest ≡ own_events a events
  pub first : FirstIsOwn a rest

pub skip : (a : ℕ) (events : List Event) → Skipped a events
skip a [] = record { others = []; rest = []; whole = refl; none_own = refl; same_own = refl; first = tt }
skip a (event ∷ events) = on (event.actor == a) refl (skip a events)
  where
    on : (b : Bool) → (event.actor == a) ≡ b → Skipped a events → Skipped a (event ∷ events)
    on true q later = record { others = []; rest = event ∷ events; whole = refl; none_own = refl; same_own = refl; first = eqb-true event.actor a q }
    on false q later = record {
      others = event ∷ later.others;
      rest = later.rest;
      whole = ap (λ es. event ∷ es) later.whole;
      none_own = own_later a event later.others q ∙ later.none_own;
      same_own = later.same_own ∙ sym (own_later a event events q);
      first = later.first;
    }

-- ---- events that spare a handle

pub none_first : (h : ℕ) (es fs : List Event) → NoneCloses h (es ++ fs) → NoneCloses h es
none_first h [] fs none = tt
none_first h (e ∷ es) fs none = (none.0, none_first h es fs none.1)

pub none_rest : (h : ℕ) (es fs : List Event) → NoneCloses h (es ++ fs) → NoneCloses h fs
none_rest h [] fs none = none
none_rest h (e ∷ es) fs none = none_rest h es fs none.1

pub none_both : (h : ℕ) (es fs : List Event) → NoneCloses h es → NoneCloses h fs → NoneCloses h (es ++ fs)
none_both h [] fs first rest = rest
none_both h (e ∷ es) fs first rest = (first.0, none_both h es fs first.1 rest)

-- ---- the root's handle stays open

module _ (a h x : ℕ) where
  pub root_stays : (events : List Event) (s : State) → held s a h ≡ Some x → NoneCloses h (own_events a events) → held (after_events s events) a h ≡ Some x
  root_stays [] s e none = e
  root_stays (event ∷ rest) s e none = on (event.actor == a) refl (λ f n. root_stays rest (after_event s event) f n)
    where
      on : (b : Bool) → (event.actor == a) ≡ b
          → (held (after_event s event) a h ≡ Some x → NoneCloses h (own_events a rest) → held (after_events (after_event s event) rest) a h ≡ Some x)
          → held (after_events (after_event s event) rest) a h ≡ Some x
      on true q go =
          let now : NoneCloses h (event ∷ own_events a rest) = subst (NoneCloses h) (own_first a event rest q) none in
          let same = eqb-true event.actor a q in
          let mine : held s event.actor h ≡ Some x = ap (λ b. held s b h) same ∙ e in
          go (ap (λ b. held (after_event s event) b h) (sym same) ∙ own_handles_stay s event.actor event.step h x mine now.0) now.1
      on false q go = go (others_handles_stay s event.actor event.step a h (λ same. eqb-false event.actor a q (sym same)) ∙ e) (subst (NoneCloses h) (own_later a event rest q) none)

-- the root as a window begins
pub root_at : (below : Below) (opening : State) (events before : List Event) (node : ℕ) → IsHistory opening events below.root node
    → NoneCloses below.root.handle (own_events below.root.owner.actor before) → HasRoot below node (after_events opening before)
root_at below opening events before node is none =
    root_later below node opening before (record { tree = is.tree; root = is.opened; root_is_dir = is.directory })
    (root_stays below.root.owner.actor below.root.handle node before opening is.opened none)
