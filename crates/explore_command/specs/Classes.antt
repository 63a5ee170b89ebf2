-- What the text says of the outcomes that a search finds.
use Rattle.std.specs.Prelude.{⊤, ℕ, List, [], ◌∷◌, Bool}
use Rattle.explore.specs.Explored.{ClassView}
use Rattle.tree_model.specs.State.{State}
use Rattle.outcome_text.specs.declared.survey.Told.{Told}
use Rattle.outcome_text.specs.Telling.{IsToldOf}

abbrev pub IsTold : Bool → List ℕ → State → ℕ → ClassView → Told → Type 0
IsTold judged named opening actors class told =
    IsToldOf judged named opening actors class.lists class.least.cuts class.least.changes class.least.turns
    class.least.replies class.least.tree class.least.outside told

-- one of each outcome, in the same order
abbrev pub AreTold : Bool → List ℕ → State → ℕ → List ClassView → List Told → Type 0
AreTold judged named opening actors [] [] = ⊤
AreTold judged named opening actors (class ∷ classes) (told ∷ all) =
    IsTold judged named opening actors class told × AreTold judged named opening actors classes all
AreTold judged named opening actors [] (told ∷ all) = ⊥
AreTold judged named opening actors (class ∷ classes) [] = ⊥
