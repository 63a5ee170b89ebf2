-- Closed sets of lists stand for all.
use Rattle.std.specs.Prelude.{◌≡◌, ℕ, List, [], ◌∷◌, ◌++◌, Bool, true}
use Rattle.std.proofs.Common.{sym, ◌∙◌, subst}
use Rattle.layered_search.specs.System.{System, IsSystem, after_turns, state_after}
use Rattle.layered_search.specs.Lists.{IsOver, IsFull}
use Rattle.layered_search.specs.Search.{IsClosed, ChosenListsStandForAll}
use Rattle.layered_search.proofs.Lists.Along.{after_append}

module _ {State : Type 0} (s : System State) (chosen : List ℕ → Bool) (laws : IsSystem s)
    (closed : IsClosed s chosen) where
  -- what a full list from a state like that after a chosen one comes to
  some_chosen : (v : State) (is js : List ℕ) → chosen js ≡ true → s.Alike v (state_after s js) → IsFull s v is
      → (ks : List ℕ) × ((chosen ks ≡ true)
      × (IsOver s (state_after s ks) × s.Agree (after_turns s v is) (state_after s ks)))
  some_chosen v [] js e alike over =
      let there = state_after s js in
      (js, (e, ((λ i. sym (laws.alike_busy v there i alike) ∙ over i), laws.alike_agree v there alike)))
  some_chosen v (i ∷ is) js e alike rest =
      let there = state_after s js in
      let next = closed.goes_on js i e (sym (laws.alike_busy v there i alike) ∙ rest.0) in
      let moved : s.Alike (s.turn v i) (s.turn there i) = laws.alike_turns v there i alike in
      let turned : s.Alike (s.turn v i) (state_after s (js ++ i ∷ [])) =
      subst (λ u. s.Alike (s.turn v i) u) (sym (after_append s s.begin js (i ∷ []))) moved in
      some_chosen (s.turn v i) is next.0 next.1.0
      (laws.alike_on (s.turn v i) (state_after s (js ++ i ∷ [])) (state_after s next.0) turned next.1.1) rest.1

pub chosen_lists_stand : {State : Type 0} (s : System State) → IsSystem s → ChosenListsStandForAll s
chosen_lists_stand s laws chosen closed is whole =
    some_chosen s chosen laws closed s.begin is [] closed.begins (laws.alike_itself s.begin) whole
