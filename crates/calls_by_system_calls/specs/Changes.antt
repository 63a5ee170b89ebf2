-- A step that changes an entry, as a program makes it by one system call. That call finds the tree as others have left
-- it by then, and what its answer says of this tree is the premise of linux_steps.
use Rattle.std.specs.Prelude.{◌≡◌, ℕ, suc, Bool, Some}
use Rattle.path_text.specs.declared.errno.Errno.TheVariants.{NotEmpty}
use Rattle.tree_model.specs.declared.answer.Answer.{Answer}
use Rattle.tree_model.specs.declared.answer.Answer.TheVariants as answers
use Rattle.tree_model.specs.StepWith.{StepWith}
use Rattle.linux_steps.specs.Changes.{change_ended, ChangeSays, IsExcepted}
use Rattle.linux_steps.specs.declared.ended.Ended.{Ended}
use Rattle.linux_steps.specs.declared.ended.Ended.TheVariants as ended
use Rattle.calls_by_system_calls.specs.Linux.{Linux, both_open, found_behind}

-- the program tells that it is done, or by which error it is refused
abbrev pub TellsChange : Ended → Answer → Type 0
TellsChange ended.Done answers.Done = Unit {0}
TellsChange (ended.Refused why) (answers.Refused error) = error ≡ why
TellsChange end answer = ⊥

-- A step by the handles 0 and 1, which are open on these directories: one system call, the first behind moment m. The
-- tree behind the call is as this change leaves it, and the program answers by the step's end. `changes_stood` has one
-- exception, here supposed not to be met: a plain rename of what is no directory onto a directory with entries that is
-- above it.
pub record IsChange (x : Linux) (m calls d e : ℕ) (step : StepWith ℕ) (answer : Answer) : Type 0 where
  pub second_name : Bool
  pub error : ℕ
  pub one : calls ≡ 1
  pub own : x.own (suc m) ≡ Some (record { directory = d; second = e; step = step })
  pub says : ChangeSays (both_open (found_behind x m).nodes d e) 0 step error
  pub tells : TellsChange (change_ended step second_name error) answer
  pub not_above : answer ≡ answers.Refused NotEmpty
      → IsExcepted (both_open (found_behind x m).nodes d e) 0 step → ⊥
