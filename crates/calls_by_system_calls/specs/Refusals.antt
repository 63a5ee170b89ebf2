-- The step table refuses a step by no other error that a call meets than those by which `linux_steps` refuses it.
use Rattle.std.specs.Prelude.{◌≡◌, ◌⊎◌, ℕ, List, [], ◌∷◌, false, Some}
use Rattle.path_text.specs.declared.errno.Errno.{Errno}
use Rattle.path_text.specs.declared.errno.Errno.TheVariants.{BadHandle, TooMany, NotDir, Invalid}
use Rattle.path_text.specs.Errno.{number_of}
use Rattle.tree_model.specs.declared.answer.Answer.TheVariants.{Refused}
use Rattle.tree_model.specs.declared.step.Mode.{Mode}
use Rattle.tree_model.specs.declared.step.StepOf.TheVariants as steps
use Rattle.tree_model.specs.State.{State, is_dir}
use Rattle.tree_model.specs.Steps.{held, outcome}
use Rattle.tree_model.specs.StepWith.{StepWith}
use Rattle.tree_model.specs.Trees.{IsState}
use Rattle.dialogue.specs.declared.calls.Answer.{Answer}
use Rattle.linux_steps.specs.Changes.{change_ended}
use Rattle.linux_steps.specs.Steps.{above_missing, link_text, missing}
use Rattle.linux_steps.specs.declared.ended.Ended.TheVariants as ended
use Rattle.linux_steps.specs.declared.ended.There.TheVariants.{No}
use Rattle.root_ops.specs.Renamed.{step_handles}

-- If the step's system call gives the number of this error, `linux_steps` refuses the step by it; an Open, by that of
-- openat2(2), a ReadLink, by that of readlinkat(2) and a Parent, if the directory was removed.
abbrev pub IsRefusedBy : StepWith ℕ → Errno → Type 0
IsRefusedBy (steps.Open h n) error = missing (number_of error) ≡ ended.Refused error
IsRefusedBy (steps.Parent h) error = above_missing No ≡ ended.Refused error
IsRefusedBy (steps.ReadLink h) error =
    (a : Answer) → a.error ≡ number_of error → link_text false a ≡ ended.Refused error
IsRefusedBy step error = change_ended step false (number_of error) ≡ ended.Refused error

abbrev pub IsOneOf : ℕ → List ℕ → Type 0
IsOneOf h [] = ⊥
IsOneOf h (k ∷ ks) = (h ≡ k) ⊎ IsOneOf h ks

-- one of the step's handles is open on what is no directory
pub record OnNoDirectory (s : State) (a : ℕ) (step : StepWith ℕ) : Type 0 where
  pub handle : ℕ
  pub node : ℕ
  pub of_step : IsOneOf handle (step_handles step)
  pub is_held : held s a handle ≡ Some node
  pub is_none : is_dir s.nodes node ≡ false

-- What a call doesn't meet, or can't know: a handle that isn't open, or is on no directory; all handles or
-- numbers in use; and EINVAL of a NUL in a text, or of a directory that can't go into itself.
pub data IsLeftAside (s : State) (a : ℕ) (step : StepWith ℕ) (error : Errno) : Type 0 where
  not_open : error ≡ BadHandle → IsLeftAside s a step error
  no_room : error ≡ TooMany → IsLeftAside s a step error
  no_directory : error ≡ NotDir → OnNoDirectory s a step → IsLeftAside s a step error
  text_has_nul : (h : ℕ) (n text : List ℕ) → step ≡ steps.MakeLink h n text → error ≡ Invalid
      → IsLeftAside s a step error
  into_itself : (h : ℕ) (n : List ℕ) (k : ℕ) (m : List ℕ) (mode : Mode) → step ≡ steps.Rename h n k m mode
      → error ≡ Invalid → IsLeftAside s a step error

-- Each other refusal of the step table is passed on.
abbrev pub StepsAreRefusedSo : Type 0
StepsAreRefusedSo = (s : State) (a : ℕ) → IsState s → (step : StepWith ℕ) (error : Errno)
    → (outcome s a step).answer ≡ Refused error
    → IsLeftAside s a step error ⊎ IsRefusedBy step error
