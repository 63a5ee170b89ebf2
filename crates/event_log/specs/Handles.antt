-- The handles that events open and close.
use Rattle.std.specs.Prelude.{ℕ, ◌==◌, ◌&&◌, ◌||◌, Bool, not, List, [], ◌∷◌}
use Rattle.tree_model.specs.declared.answer.Answer.{Answer}
use Rattle.tree_model.specs.declared.answer.Answer.TheVariants.{Opened, Done}
use Rattle.tree_model.specs.declared.answer.Event.{Event}
use Rattle.tree_model.specs.declared.step.StepOf.TheVariants.{Close}
use Rattle.tree_model.specs.StepWith.{StepWith}

-- a handle is open after a step that was so answered, where `was` is whether it was open before
abbrev pub left_after : ℕ → Bool → Answer → StepWith ℕ → Bool
left_after h was (Opened k x kind) step = was || (k == h)
left_after h was Done (Close k) = was && not (k == h)
left_after h was answer step = was

-- the same after events
abbrev pub open_after : ℕ → Bool → List Event → Bool
open_after h was [] = was
open_after h was (event ∷ events) = open_after h (left_after h was event.answer event.step) events
