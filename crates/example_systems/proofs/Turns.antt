-- One turn more.
use Rattle.std.specs.Prelude.{◌≡◌, ◌<◌, ◌+◌, ◌++◌, ◌∷◌, [], ℕ, List, length, take, refl}
use Rattle.std.proofs.Common.{ap, ◌∙◌, get_or}
use Rattle.std.proofs.lemmas.List.{take_more}
use Rattle.layered_search.specs.System.{System, after_turns}

module _ {State : Type 0} (s : System State) where
  push : (v : State) (is : List ℕ) (i : ℕ) → after_turns s v (is ++ i ∷ []) ≡ s.turn (after_turns s v is) i
  push v [] i = refl
  push v (j ∷ js) i = push (s.turn v j) js i

  -- the turn at that place of the list
  pub turn_at : (v : State) (is : List ℕ) (k : ℕ) → k < length is
      → after_turns s v (take (k + 1) is) ≡ s.turn (after_turns s v (take k is)) (get_or is k 0)
  turn_at v is k lt = ap (λ js. after_turns s v js) (take_more is k 0 lt) ∙ push v (take k is) (get_or is k 0)
