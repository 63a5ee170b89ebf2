-- The turns that all lists begin with, one after another.
use Rattle.layered_search.specs.Limits.{ScopeView}
use Rattle.std.specs.Prelude.{◌≡◌, ◌<◌, ◌≤◌, ℕ, ◌+◌, zero, suc, List, [], ◌∷◌, ◌++◌, Bool, true, false, length, take, Option, None, Some, slice_get, refl}
use Rattle.std.proofs.Common.{sym, ap, ◌∙◌, subst, arith}
use Rattle.layered_search.specs.declared.cost.Cost.{Cost}
use Rattle.layered_search.specs.System.{System, IsSystem, Keys, Follows, state_after}
use Rattle.layered_search.specs.Lists.{cuts}
use Rattle.layered_search.specs.Asked.{IsWithin, IsOnly, IsTooLong, IsIdle}
use Rattle.layered_search.specs.Points.{Point, start, along, onward, cost_after, AreWithin}
use Rattle.layered_search.specs.States.{IsSoFar, IsTakenAt}
use Rattle.layered_search.proofs.Places.{ap_at, take_push}
use Rattle.layered_search.proofs.Lists.Along.{after_append, along_append, along_state}
use Rattle.layered_search.proofs.Lists.Turning.{turn_within}
use Rattle.layered_search.proofs.Layers.SoFar.{list_few, cuts_there, on_so_far}

pub first_many : (begin : List ℕ) (at : ℕ) → at ≤ length begin → length (take at begin) ≡ at
first_many [] zero le = refl
first_many [] (suc at) le = absurd (omega (arith, le))
first_many (b ∷ bs) zero le = refl
first_many (b ∷ bs) (suc at) le = let rest = first_many bs at (omega (arith, le)) in ap suc rest

pub more_turns : (begin turns more : List ℕ) (at actor : ℕ) → turns ≡ take at begin → slice_get begin at ≡ Some actor
    → more ≡ turns ++ actor ∷ [] → more ≡ take (at + 1) begin
more_turns begin turns more at actor first there is =
    let up : suc at ≡ at + 1 = omega arith in
    is
    ∙ (ap (λ (xs : List ℕ). xs ++ actor ∷ []) first
    ∙ (sym (take_push begin at actor there) ∙ ap (λ n. take n begin) up))

-- the key after the turns so far, which is the first one before them
abbrev pub key_now : {Key : Type 0} → Option Key → Key → Key
key_now None key = key
key_now (Some own) key = own

module _ {State : Type 0} (s : System State) (laws : IsSystem s) (scope : ScopeView) (at : ℕ) where
  abbrev begin : List ℕ
  begin = scope.begin

  -- nobody beyond the actors has anything left to do
  pub idle_beyond : (is : List ℕ) (i : ℕ) → s.actors ≤ i → s.is_busy (state_after s is) i ≡ false
  idle_beyond is i le = by (s.is_busy (state_after s is) i) refl
    where
      by : (b : Bool) → s.is_busy (state_after s is) i ≡ b → s.is_busy (state_after s is) i ≡ false
      by true e = absurd (let lt : i < s.actors = laws.few is i e in omega (arith, lt, le))
      by false e = e

  pub is_idle : (is : List ℕ) (actor : ℕ) → is ≡ take at begin → slice_get begin at ≡ Some actor
      → s.is_busy (state_after s is) actor ≡ false → IsIdle s begin at
  is_idle is actor e there idle = record {
    actor = actor;
    there = there;
    idle = subst (λ (js : List ℕ). s.is_busy (state_after s js) actor ≡ false) e idle;
  }

  module _ (is : List ℕ) (cost : Cost) (first : is ≡ take at begin) (so : IsSoFar s scope is cost) where
    -- the turns so far are more than so many
    pub begins_long : (turns : ℕ) → at ≤ length begin → turns < at → (js : List ℕ) × IsTooLong s scope turns js
    begins_long turns le lt = (
      is,
      (
        record { busy = so.busy; few_cuts = list_few s scope is cost so; begins = so.along_it },
        subst (λ n. turns < n) (sym (ap length first ∙ first_many begin at le)) lt,
      ),
    )

    module _ (actor : ℕ) (there : slice_get begin at ≡ Some actor) where
      turned : cuts s (is ++ actor ∷ []) ≡ (cost_after s (state_after s is) cost actor).cuts
      turned =
          sym (cuts_there s (is ++ actor ∷ []))
          ∙ (ap_at (λ (p : Point State). p.cost.cuts) (along s (start s) (is ++ actor ∷ []))
          (onward s (along s (start s) is) actor) (along_append s (start s) is (actor ∷ []))
          ∙ (ap_at (λ (v : State). (cost_after s v (along s (start s) is).cost actor).cuts)
          (along s (start s) is).state (state_after s is) (along_state s (start s) is)
          ∙ ap_at (λ (c : Cost). (cost_after s (state_after s is) c actor).cuts) (along s (start s) is).cost cost
          (sym so.cost_are)))

      next_turns : take (suc at) begin ≡ is ++ actor ∷ []
      next_turns = take_push begin at actor there ∙ ap (λ (js : List ℕ). js ++ actor ∷ []) (sym first)

      -- with the next one there are too many cuts
      pub many_cuts : (after : Cost) → after ≡ cost_after s (state_after s is) cost actor
          → (IsWithin scope.cuts after.cuts → ⊥) → IsWithin scope.cuts (cuts s (take (suc at) begin)) → ⊥
      many_cuts after e many few =
          many (subst (λ n. IsWithin scope.cuts n)
          (ap (λ (js : List ℕ). cuts s js) next_turns ∙ (turned ∙ ap (λ (c : Cost). c.cuts) (sym e))) few)

    -- the next one can be taken
    pub next_so_far : at ≤ length begin → (after : Cost) (taken : IsTakenAt s scope is at cost after) (more : List ℕ)
        → more ≡ is ++ taken.actor ∷ [] → IsSoFar s scope more after
    next_so_far le after taken more e =
        let long : length is ≡ at = ap length first ∙ first_many begin at le in
        let only : IsOnly (slice_get begin (length is)) taken.actor =
        subst (λ n. IsOnly (slice_get begin n) taken.actor) (sym long)
        (subst (λ o. IsOnly o taken.actor) (sym taken.there) refl) in
        subst (λ (js : List ℕ). IsSoFar s scope js after) (sym e)
        (subst (λ (c : Cost). IsSoFar s scope (is ++ taken.actor ∷ []) c) (sym taken.cost_is)
        (on_so_far s laws scope is cost (state_after s is) taken.actor so (laws.alike_itself (state_after s is))
        (record {
          only = only;
          busy = taken.busy;
          few = subst (λ (c : Cost). IsWithin scope.cuts c.cuts) taken.cost_is taken.few;
        })))

  pub next_within : (is : List ℕ) (cost after : Cost) → IsTakenAt s scope is at cost after → AreWithin cost at
      → AreWithin after (at + 1)
  next_within is cost after taken within =
      subst (λ (c : Cost). AreWithin c (at + 1)) (sym taken.cost_is)
      (turn_within s (record { state = state_after s is; cost = cost }) taken.actor at within)

pub key_here : {Key : Type 0} (P : Key → Type 0) (own : Option Key) (key now : Key) → now ≡ key_now own key
    → P (key_now own key) → P now
key_here P own key now e here = subst P (sym e) here

-- the key after one turn more
pub next_key : {State Memory Key : Type 0} (s : System State) (k : Keys State Memory Key) (memory new : Memory)
    (turns more : List ℕ) (actor n m : ℕ) (key next : Key) → Follows s k memory new n key actor next
    → k.IsKey memory n (state_after s turns) key → more ≡ turns ++ actor ∷ [] → m ≡ suc n
    → k.IsKey new m (state_after s more) next
next_key {State} s k memory new turns more actor n m key next follows here e up =
    subst (λ (js : List ℕ). k.IsKey new m (state_after s js) next) (sym e)
    (subst (λ (x : ℕ). k.IsKey new x (state_after s (turns ++ actor ∷ [])) next) (sym up)
    (subst (λ (v : State). k.IsKey new (suc n) v next) (sym (after_append s s.begin turns (actor ∷ [])))
    (follows (state_after s turns) here)))
