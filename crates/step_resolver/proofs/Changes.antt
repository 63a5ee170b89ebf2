-- Changes that others make to entries, counted: those of two parts; one where a node's entry changed; and what there being none
-- leaves as it was.
use Rattle.std.specs.Prelude.{◌≡◌, ℕ, zero, suc, ◌+◌, ◌≤◌, ◌≢◌, ◌⊎◌, ◌==◌, ◌&&◌, List, [], ◌∷◌, ◌++◌, Bool, true, false, not, cond, Option, Some, None, slice_get, refl}
use Rattle.std.proofs.Common.{sym, ap, ◌∙◌, inl, inr, eqb-true, arith}
use Rattle.std.proofs.lemmas.Option.{none-some, same_Some}
use Rattle.std.proofs.lemmas.List.Sums.{sum_by-append, sum_by-cons}
use Rattle.tree_model.specs.declared.answer.Event.{Event}
use Rattle.tree_model.specs.declared.inode.Place.{Place}
use Rattle.tree_model.specs.State.{State, child}
use Rattle.tree_model.specs.StepLaws.{is_on_entries, only_tells}
use Rattle.tree_model.specs.Steps.{outcome}
use Rattle.tree_model.specs.History.{after_event}
use Rattle.tree_model.proofs.HistoryLaws.{legal_at_each_moment}
use Rattle.tree_model.proofs.StepLaws.{nodes_are_left, telling_changes_nothing}
use Rattle.step_resolver.specs.Asked.{follows}
use Rattle.step_resolver.specs.Meaning.{reading_means, reads_of}
use Rattle.step_resolver.specs.Trail.{is_by}
use Rattle.step_resolver.specs.WalkHistory.{WalkInHistory, IsWalkInHistory, begin_of, state_at, timeline}
use Rattle.step_resolver.specs.Footprint.{ground}
use Rattle.step_resolver.specs.FootprintLaws.{IsChanged, SomeIsChanged}
use Rattle.step_resolver.specs.Changes.{is_change_by_other, changes_by_others, RacedWalksNeedAChange}
use Rattle.step_resolver.proofs.Ends.EntriesLeftAlone.{next_moment, past_the_end}
use Rattle.step_resolver.proofs.Ends.RacedMeansChange.{raced_tells_of_change}

abbrev weight : ℕ → Event → ℕ
weight a event = cond (is_change_by_other a event) 1 0

-- those of two parts, one after the other
pub added : (a : ℕ) (es fs : List Event) → changes_by_others a (es ++ fs) ≡ changes_by_others a es + changes_by_others a fs
added a es fs = sum_by-append (weight a) es fs

-- one of them is there
pub one_there : (a : ℕ) (es : List Event) (t : ℕ) (event : Event) → slice_get es t ≡ Some event → is_change_by_other a event ≡ true → 1 ≤ changes_by_others a es
one_there a [] t event e c = absurd (none-some event e)
one_there a (x ∷ es) zero event e c =
    let first : weight a x ≡ 1 = ap (λ (b : Bool). cond b 1 0) (ap (is_change_by_other a) (same_Some x event e) ∙ c) in
    let all = sum_by-cons (weight a) x es in
    omega (arith, first, all)
one_there a (x ∷ es) (suc t) event e c =
    let later = one_there a es t event e c in
    let all = sum_by-cons (weight a) x es in
    omega (arith, later, all)

-- numbers that differ
eqb-no : (x y : ℕ) → x ≢ y → (x == y) ≡ false
eqb-no x y ne = on (x == y) refl
  where
    on : (b : Bool) → (x == y) ≡ b → (x == y) ≡ false
    on true q = absurd (ne (eqb-true x y q))
    on false q = q

-- ---- an event of another is such a change, or leaves the nodes

module _ (w : WalkInHistory) (is : IsWalkInHistory w) where
  abbrev Left : ℕ → Type 0
  Left t = (timeline w).nodes_at (suc t) ≡ (timeline w).nodes_at t

  module _ (t : ℕ) (event : Event) (at : slice_get w.window t ≡ Some event) (other : (event.actor == w.actor) ≡ false) where
    next : (timeline w).nodes_at (suc t) ≡ (after_event (state_at w t) event).nodes
    next = ap (λ (s : State). s.nodes) (next_moment (begin_of w) w.window t event at)

    told : event.answer ≡ (outcome (state_at w t) event.actor event.step).answer
    told = (legal_at_each_moment (begin_of w) w.window).0 is.legal t event at

    changes_or_leaves : (is_change_by_other w.actor event ≡ true) ⊎ Left t
    changes_or_leaves = on (is_on_entries event.step) refl (only_tells event.answer) refl
      where
        on : (entries : Bool) → is_on_entries event.step ≡ entries → (tells : Bool) → only_tells event.answer ≡ tells → (is_change_by_other w.actor event ≡ true) ⊎ Left t
        on false q tells r = inr (next ∙ nodes_are_left (state_at w t) event.actor event.step q)
        on true q true r =
            inr (next ∙ ap (λ (s : State). s.nodes) (telling_changes_nothing (state_at w t) event.actor event.step (sym (ap only_tells told) ∙ r)))
        on true q false r = inl (ap (λ b. not b && is_on_entries event.step && not (only_tells event.answer)) other
            ∙ ap (λ b. b && not (only_tells event.answer)) q ∙ ap not r)

  -- where there is none, each event of another leaves the nodes
  pub others_leave : changes_by_others w.actor w.window ≡ 0 → (t : ℕ) → (timeline w).is_own t ≡ false → Left t
  others_leave none t other = on (slice_get w.window t) refl
    where
      not_counted : (event : Event) → slice_get w.window t ≡ Some event → is_change_by_other w.actor event ≡ true → ⊥
      not_counted event q change = let some = one_there w.actor w.window t event q change in omega (arith, some, none)

      by : (event : Event) → slice_get w.window t ≡ Some event → (is_change_by_other w.actor event ≡ true) ⊎ Left t → Left t
      by event q (inl change) = absurd (not_counted event q change)
      by event q (inr left) = left

      on : (o : Option Event) → slice_get w.window t ≡ o → Left t
      on None q = ap (λ (s : State). s.nodes) (past_the_end (begin_of w) w.window t q)
      on (Some event) q = by event q (changes_or_leaves t event q (sym (ap (is_by w.actor) q) ∙ other))

  -- an entry that another changed is one change
  one_change : (entry : Place) → IsChanged w entry → 1 ≤ changes_by_others w.actor w.window
  one_change entry c = by (changes_or_leaves c.when c.event c.is_event (eqb-no c.event.actor w.actor c.by_other))
    where
      by : (is_change_by_other w.actor c.event ≡ true) ⊎ Left c.when → 1 ≤ changes_by_others w.actor w.window
      by (inl change) = one_there w.actor w.window c.when c.event c.is_event change
      by (inr left) = absurd (c.changed (ap (λ nodes. child nodes entry.parent entry.name) left))

  pub some_change : (entries : List Place) → SomeIsChanged w entries → 1 ≤ changes_by_others w.actor w.window
  some_change [] c = absurd c
  some_change (entry ∷ entries) (inl c) = one_change entry c
  some_change (entry ∷ entries) (inr c) = some_change entries c

-- a walk that failed with EAGAIN met one
pub raced_walk_met : RacedWalksNeedAChange
raced_walk_met w is leads = some_change w is (reads_of (reading_means (ground w) w.path (follows w.way.goal))) (raced_tells_of_change w is leads)
