-- How many cuts there are along a list of turns, and where it leads.
use Rattle.std.specs.Prelude.{◌≡◌, ℕ, ◌+◌, List, [], ◌∷◌, ◌++◌, Bool, true, false, Some, refl}
use Rattle.std.proofs.Common.{◌∙◌, arith}
use Rattle.layered_search.specs.System.{System, after_turns}
use Rattle.layered_search.specs.Lists.{plus, is_cut, cuts_after}
use Rattle.layered_search.specs.Points.{Point, onward, along}

pub plus_moved : (b : Bool) (m n : ℕ) → plus b m + n ≡ m + plus b n
plus_moved true m n = omega arith
plus_moved false m n = refl

module _ {State : Type 0} (s : System State) where
  -- ---- where it leads

  pub after_append : (v : State) (is js : List ℕ) → after_turns s v (is ++ js) ≡ after_turns s (after_turns s v is) js
  after_append v [] js = refl
  after_append v (i ∷ is) js = after_append (s.turn v i) is js

  pub along_append : (p : Point State) (is js : List ℕ) → along s p (is ++ js) ≡ along s (along s p is) js
  along_append p [] js = refl
  along_append p (i ∷ is) js = along_append (onward s p i) is js

  pub along_state : (p : Point State) (is : List ℕ) → (along s p is).state ≡ after_turns s p.state is
  along_state p [] = refl
  along_state p (i ∷ is) = along_state (onward s p i) is

  -- ---- cuts on the way

  pub cuts_along : (p : Point State) (is : List ℕ)
      → (along s p is).cost.cuts ≡ p.cost.cuts + cuts_after s p.state p.cost.last is
  cuts_along p [] = omega arith
  cuts_along p (i ∷ is) =
      cuts_along (onward s p i) is
      ∙ plus_moved (is_cut s p.state p.cost.last i) p.cost.cuts (cuts_after s (s.turn p.state i) (Some i) is)
