-- What an outcome without a cut is.
use Rattle.std.specs.Prelude.{◌≡◌, ◌≢◌, ℕ, List, [], ◌∷◌, false}
use Rattle.race_core.specs.Worlds.{WorldView, turn, is_within_at}
use Rattle.local_states.specs.Worlds.{full}
use Rattle.explore.specs.Explored.{Scope, EndingView, IsEnding}

-- nobody has a call under way
abbrev pub NobodyIsWithin : WorldView → Type 0
NobodyIsWithin w = (i : ℕ) → is_within_at w.seats i ≡ false

-- Each call is made whole: no turn is taken while another actor has a call under way.
abbrev pub AreWholeCalls : WorldView → List ℕ → Type 0
AreWholeCalls w [] = Unit {0}
AreWholeCalls w (i ∷ is) =
    ((j : ℕ) → j ≢ i → is_within_at w.seats j ≡ false) × AreWholeCalls (turn full w i) is

-- An outcome without a cut is one of whole calls, in some order.
abbrev pub OutcomesWithoutCutsAreOfWholeCalls : Type 0
OutcomesWithoutCutsAreOfWholeCalls = (w : WorldView) (scope : Scope) (ending : EndingView)
    → NobodyIsWithin w → IsEnding w scope ending → ending.cuts ≡ 0 → AreWholeCalls w ending.turns
