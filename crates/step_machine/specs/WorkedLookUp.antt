-- A small machine, worked: it opens a name in a directory that is held, and closes what it opened. openat(2), close(2).
use Rattle.std.specs.Prelude.{ℕ, List, [], ◌∷◌, Bool, true, false, Option, Some, None, codes}
use Rattle.path_text.specs.declared.errno.Errno.{Errno}
use Rattle.path_text.specs.declared.errno.Errno.TheVariants.{NotFound, NoMemory, BadHandle}
use Rattle.tree_model.specs.declared.answer.Answer.{Answer}
use Rattle.tree_model.specs.declared.answer.Answer.TheVariants.{Opened, Done, Refused}
use Rattle.tree_model.specs.declared.step.Kind.TheVariants.{File}
use Rattle.tree_model.specs.StepWith.{StepWith}
use Rattle.tree_model.specs.declared.step.StepOf.TheVariants.{Open, Close}
use Rattle.step_machine.specs.Told.{Line, answered, no_room, not_made, IsUnmade}
use Rattle.step_machine.specs.Machine.{Machine, LeadsTo}

-- the step that is due: Open of the name, or Close of what was opened, and then this is its end
pub data LookUp : Type 0 where
  opens : LookUp
  shuts : ℕ → Bool → LookUp

pub data LookUpTurn : Type 0 where
  more : LookUp → LookUpTurn
  is_there : LookUpTurn
  failed : Errno → LookUpTurn

abbrev pub under_way : LookUpTurn → Option LookUp
under_way (more look_up) = Some look_up
under_way is_there = None
under_way (failed error) = None

abbrev pub due : LookUp → StepWith ℕ
due opens = Open 7 (codes "name")
due (shuts h room) = Close h

abbrev pub ended : Bool → LookUpTurn
ended true = is_there
ended false = failed NoMemory

abbrev pub take : Bool → LookUp → Answer → LookUpTurn
take room opens (Opened h x kind) = more (shuts h room)
take room opens (Refused error) = failed error
take room opens answer = failed BadHandle
take room (shuts h had_room) answer = ended had_room

abbrev pub look_up : Machine LookUpTurn LookUp
look_up = record { more = more; under_way = under_way; due = due; IsUnmade = λ l. IsUnmade (due l); take = take }

-- ---- lines

abbrev pub OPENED : Line
OPENED = answered (Open 7 (codes "name")) (Opened 8 3 File)

abbrev pub CLOSED : Line
CLOSED = answered (Close 8) Done

abbrev pub Leads : LookUpTurn → List Line → LookUpTurn → Type 0
Leads = LeadsTo look_up

-- ---- the law

-- What it opened it closes, and then it is at its end, to which no further line belongs. A step that isn't due leads
-- nowhere; so does a Close that wasn't made.
pub record LookUpIsWorked : Type 0 where
  pub there : Leads (more opens) (OPENED ∷ CLOSED ∷ []) is_there
  pub missing : Leads (more opens) (answered (Open 7 (codes "name")) (Refused NotFound) ∷ []) (failed NotFound)
  pub no_memory_for_the_answer : Leads (more opens)
      (no_room (Open 7 (codes "name")) (Opened 8 3 File) ∷ CLOSED ∷ []) (failed NoMemory)
  pub no_memory_for_the_step : Leads (more opens) (not_made NoMemory ∷ []) (failed NoMemory)
  pub left_open : Leads (more opens) (OPENED ∷ []) is_there → ⊥
  pub goes_on_at_its_end : (end : LookUpTurn) → Leads is_there (CLOSED ∷ []) end → ⊥
  pub another_step : (end : LookUpTurn) → Leads (more opens) (CLOSED ∷ []) end → ⊥
  pub no_close : (end : LookUpTurn) → Leads (more (shuts 8 true)) (not_made NoMemory ∷ []) end → ⊥
