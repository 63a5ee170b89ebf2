-- What contracts see of a step, whether it has its names and texts or they are lent.
use Rattle.std.specs.Prelude.{ℕ, List}
use Rattle.tree_model.specs.declared.step.StepOf.{StepOf}

-- a step of such handles: its names and its text are lists of bytes
abbrev pub StepWith : Type 0 → Type 0
StepWith handle = StepOf handle (List ℕ) (List ℕ)
