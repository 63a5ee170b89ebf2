-- Which steps are no Close.
use Rattle.std.specs.Prelude.{◌≡◌, ℕ, false, refl}
use Rattle.tree_model.specs.StepWith.{StepWith}
use Rattle.tree_model.specs.declared.step.StepOf.TheVariants.{Close}
use Rattle.tree_model.specs.Steps.{takes_no_memory}
use Rattle.step_machine.specs.Told.{is_close}

pub takes_memory : (step : StepWith ℕ) → takes_no_memory step ≡ false → is_close step ≡ false
takes_memory (Close h) takes = cc (takes)
takes_memory step takes = refl

pub no_close : (step : StepWith ℕ) → ((h : ℕ) → step ≡ Close h → ⊥) → is_close step ≡ false
no_close (Close h) never = absurd (never h refl)
no_close step never = refl
