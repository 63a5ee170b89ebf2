-- A step that is made on a tree.
use Rattle.std.specs.Prelude.{◌≡◌, ℕ, ◌⊎◌, false}
use Rattle.path_text.specs.declared.errno.Errno.TheVariants.{NoMemory}
use Rattle.tree_model.specs.declared.answer.Answer.{Answer}
use Rattle.tree_model.specs.declared.answer.Answer.TheVariants.{Refused}
use Rattle.tree_model.specs.State.{State}
use Rattle.tree_model.specs.StepWith.{StepWith}
use Rattle.tree_model.specs.Steps.{outcome, takes_no_memory}

-- the step was made, or there was no memory to make it
abbrev pub IsAnswer : StepWith ℕ → ℕ → State → State → Answer → Type 0
IsAnswer step a s t answer =
    ((answer ≡ (outcome s a step).answer) × (t ≡ (outcome s a step).after))
    ⊎ ((takes_no_memory step ≡ false) × (answer ≡ Refused NoMemory) × (t ≡ s))
