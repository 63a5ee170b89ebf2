-- An actor's own events among those of others, and a window that is cut where they are.
use Rattle.std.specs.Prelude.{◌≡◌, ℕ, suc, ◌==◌, List, [], ◌∷◌, ◌++◌, Bool, true, false, cond, slice_get, Some, refl}
use Rattle.std.proofs.Common.{sym, ap, ◌∙◌, eq-eqb, eqb-true}
use Rattle.tree_model.specs.declared.answer.Event.{Event}
use Rattle.step_resolver.specs.WalkHistory.{own_events}
use Rattle.step_resolver.proofs.Underway.LegalHistory.{cons_not_nil, same_head, same_tail}
use Rattle.bulk_ops.specs.WalkFirst.{EndsInOwn}

-- a window in which all events are one actor's is that of its own events
pub all_own : (a : ℕ) (window : List Event) → ((t : ℕ) (event : Event) → slice_get window t ≡ Some event → event.actor ≡ a) → own_events a window ≡ window
all_own a [] quiet = refl
all_own a (event ∷ window) quiet =
    ap (λ b. cond b (event ∷ own_events a window) (own_events a window)) (eq-eqb event.actor a (quiet 0 event refl))
    ∙ ap (λ events. event ∷ events) (all_own a window (λ t v e. quiet (suc t) v e))

module _ (a : ℕ) where
  -- an event of the actor's own, or of another
  pub own_first : (event : Event) (rest : List Event) → (event.actor == a) ≡ true → own_events a (event ∷ rest) ≡ event ∷ own_events a rest
  own_first event rest e = ap (λ b. cond b (event ∷ own_events a rest) (own_events a rest)) e

  pub own_later : (event : Event) (rest : List Event) → (event.actor == a) ≡ false → own_events a (event ∷ rest) ≡ own_events a rest
  own_later event rest e = ap (λ b. cond b (event ∷ own_events a rest) (own_events a rest)) e

  -- those of two windows, one after the other
  both_more : (event : Event) (es fs : List Event) → own_events a (es ++ fs) ≡ own_events a es ++ own_events a fs → (mine : Bool) → (event.actor == a) ≡ mine
      → own_events a (event ∷ (es ++ fs)) ≡ own_events a (event ∷ es) ++ own_events a fs
  both_more event es fs both true q =
      own_first event (es ++ fs) q ∙ ap (λ xs. event ∷ xs) both ∙ sym (ap (λ xs. xs ++ own_events a fs) (own_first event es q))
  both_more event es fs both false q = own_later event (es ++ fs) q ∙ both ∙ sym (ap (λ xs. xs ++ own_events a fs) (own_later event es q))

  pub own_both : (es fs : List Event) → own_events a (es ++ fs) ≡ own_events a es ++ own_events a fs
  own_both [] fs = refl
  own_both (event ∷ es) fs = both_more event es fs (own_both es fs) (event.actor == a) refl

  -- one more event in front of those that end in an own one
  own_in_front : (event : Event) (events : List Event) → event.actor ≡ a → EndsInOwn a events → EndsInOwn a (event ∷ events)
  own_in_front event [] mine ends = mine
  own_in_front event (next ∷ events) mine ends = ends

  some_in_front : (event x : Event) (events first : List Event) → own_events a events ≡ x ∷ first → EndsInOwn a events → EndsInOwn a (event ∷ events)
  some_in_front event x [] first own ends = absurd (cons_not_nil x first (sym own))
  some_in_front event x (next ∷ events) first own ends = ends

  -- a window in two, where the actor's own events are; the first part ends in the last of its own
  pub record Cut (window first rest : List Event) : Type 0 where
    pub before : List Event
    pub after : List Event
    pub whole : window ≡ before ++ after
    pub own_before : own_events a before ≡ first
    pub ends_in_own : EndsInOwn a before
    pub own_after : own_events a after ≡ rest

  pub cut : (window first rest : List Event) → own_events a window ≡ first ++ rest → Cut window first rest
  cut window [] rest e = record { before = []; after = window; whole = refl; own_before = refl; ends_in_own = tt; own_after = e }
  cut [] (x ∷ first) rest e = absurd (cons_not_nil x (first ++ rest) (sym e))
  cut (event ∷ window) (x ∷ first) rest e = on (event.actor == a) refl (λ own. cut window first rest own) (λ own. cut window (x ∷ first) rest own)
    where
      on : (b : Bool) → (event.actor == a) ≡ b → (own_events a window ≡ first ++ rest → Cut window first rest)
          → (own_events a window ≡ x ∷ first ++ rest → Cut window (x ∷ first) rest) → Cut (event ∷ window) (x ∷ first) rest
      on true q next later =
          let same = sym (own_first event window q) ∙ e in
          let cut_later = next (same_tail event x (own_events a window) (first ++ rest) same) in
          record {
            before = event ∷ cut_later.before;
            after = cut_later.after;
            whole = ap (λ es. event ∷ es) cut_later.whole;
            own_before = own_first event cut_later.before q ∙ ap (λ es. event ∷ es) cut_later.own_before ∙ ap (λ y. y ∷ first) (same_head event x (own_events a window) (first ++ rest) same);
            ends_in_own = own_in_front event cut_later.before (eqb-true event.actor a q) cut_later.ends_in_own;
            own_after = cut_later.own_after;
          }
      on false q next later =
          let cut_later = later (sym (own_later event window q) ∙ e) in
          record {
            before = event ∷ cut_later.before;
            after = cut_later.after;
            whole = ap (λ es. event ∷ es) cut_later.whole;
            own_before = own_later event cut_later.before q ∙ cut_later.own_before;
            ends_in_own = some_in_front event x cut_later.before first cut_later.own_before cut_later.ends_in_own;
            own_after = cut_later.own_after;
          }
