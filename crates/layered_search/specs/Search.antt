-- Which lists of turns stand for all.
use Rattle.std.specs.Prelude.{◌≡◌, ℕ, List, [], ◌∷◌, ◌++◌, Bool, true}
use Rattle.layered_search.specs.System.{System, state_after}
use Rattle.layered_search.specs.Lists.{IsOver, IsFull}
use Rattle.layered_search.specs.Asked.{AgreeIn}

module _ {State : Type 0} (s : System State) where
  -- Some lists are chosen: the empty one, and of each chosen list and each actor who has something left to do after
  -- it, one that leads to a state like that after the actor's turn.
  pub record IsClosed (chosen : List ℕ → Bool) : Type 0 where
    pub begins : chosen [] ≡ true
    pub goes_on : (is : List ℕ) (i : ℕ) → chosen is ≡ true → s.is_busy (state_after s is) i ≡ true
        → (js : List ℕ) × ((chosen js ≡ true) × s.Alike (state_after s (is ++ i ∷ [])) (state_after s js))

  -- ---- the law

  -- Whatever a full list of turns comes to is what some chosen list comes to, after which nobody has anything left to
  -- do.
  abbrev pub ChosenListsStandForAll : Type 0
  ChosenListsStandForAll = (chosen : List ℕ → Bool) → IsClosed chosen → (is : List ℕ) → IsFull s s.begin is
      → (js : List ℕ) × ((chosen js ≡ true) × (IsOver s (state_after s js) × AgreeIn s is js))
