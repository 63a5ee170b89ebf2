-- The order of RemoveAll's steps: which step is due, and what its answer makes of the call. The directory part of
-- the path is walked; then the target in it is cleared: an entry is removed as what is no directory, and where a
-- directory stands there that is opened by its name, listed, its own entries are cleared, and then it is removed.
-- unlink(2), rmdir(2), openat(2) with O_PATH and O_NOFOLLOW.
use Rattle.std.specs.Prelude.{ℕ, suc, zero, ◌+◌, ◌*◌, List, [], ◌∷◌, Bool, true, false, length, map, Option, Some, None}
use Rattle.path_text.specs.declared.errno.Errno.{Errno}
use Rattle.path_text.specs.declared.errno.Errno.TheVariants.{NotFound, NoMemory, Busy, NotDir, IsDir, NotEmpty}
use Rattle.path_text.specs.Reading.{Reading}
use Rattle.tree_model.specs.declared.answer.Answer.{Answer}
use Rattle.tree_model.specs.declared.answer.Answer.TheVariants.{Opened, Listed, Done, Refused}
use Rattle.tree_model.specs.declared.step.Kind.{Kind}
use Rattle.tree_model.specs.declared.step.Kind.TheVariants as kind
use Rattle.tree_model.specs.StepWith.{StepWith}
use Rattle.tree_model.specs.declared.step.StepOf.TheVariants.{Open, List as ListNames, Close, RemoveFile, RemoveDir}
use Rattle.step_machine.specs.Machine.{Machine}
use Rattle.step_machine.specs.Machine as machine
use Rattle.step_resolver.specs.Order.{Way, Walking, refusal_of, Line, IsUnmade}
use Rattle.step_resolver.specs.Order as walk
use Rattle.bulk_ops.specs.declared.remove_all.clearing.TheConstants.{CLEARING_STEPS_MAX}

-- a directory that is held by its handle, and what is to be cleared in it: the entry under way, and then the others.
-- The outermost is the directory of the walk, with the target alone.
pub record Level : Type 0 where
  pub dir : ℕ
  pub name : List ℕ
  pub others : List (List ℕ)

-- what is due for the entry under way; what was opened by its name is held by its handle
pub data Stage : Type 0 where
  -- RemoveFile of it
  removes_file : Stage
  -- Open of it, since a directory stood there
  opens : Stage
  -- List of the directory that was opened
  lists : ℕ → Stage
  -- Close of what was opened and is no directory
  shuts : ℕ → Stage
  -- Close of the directory that was opened and cleared
  leaves : ℕ → Stage
  -- RemoveDir of it
  removes_dir : Stage

-- what comes after closings: the refusal, or the count of the entries that were removed
pub data End : Type 0 where
  fails : Errno → End
  removes : ℕ → End

-- A call, by the step that is due.
pub data Removing : Type 0 where
  -- the walk's, on this way, to the directory in which this is the target
  walking : Way → List ℕ → Walking → Removing
  -- one of clearing: in the innermost directory, below those; so many are removed, and so many steps of clearing are
  -- left after it
  clearing : Stage → Level → List Level → ℕ → ℕ → Removing
  -- Close of this handle and then of these
  closing : ℕ → List ℕ → End → Removing

pub data Turn : Type 0 where
  more : Removing → Turn
  removed : ℕ → Turn
  failed : Errno → Turn

-- ---- what is held

abbrev pub dirs : List Level → List ℕ
dirs levels = map (λ level. level.dir) levels

-- and it before these
abbrev pub before : Stage → List ℕ → List ℕ
before removes_file hs = hs
before opens hs = hs
before (lists h) hs = h ∷ hs
before (shuts h) hs = h ∷ hs
before (leaves h) hs = h ∷ hs
before removes_dir hs = hs

-- ---- from one step to the next

abbrev pub ends : End → Turn
ends (fails error) = failed error
ends (removes count) = removed count

-- these handles are closed, the innermost first, and then the call ends
abbrev pub closes : List ℕ → End → Turn
closes [] end = ends end
closes (h ∷ hs) end = more (closing h hs end)

-- a step of clearing, if one is left; else all that is held is closed, and the call fails with Busy
abbrev pub is_due : Stage → Level → List Level → ℕ → ℕ → Turn
is_due stage level above count zero = closes (before stage (dirs (level ∷ above))) (fails Busy)
is_due stage level above count (suc left) = more (clearing stage level above count left)

-- the call is given up
abbrev pub gives_up : Stage → Level → List Level → Errno → Turn
gives_up stage level above error = closes (before stage (dirs (level ∷ above))) (fails error)

-- the entry under way is cleared: the next one's turn; or the directory's own removal, once it is closed; or the end
abbrev pub next_entry : ℕ → List (List ℕ) → List Level → ℕ → ℕ → Turn
next_entry d (m ∷ others) above count left =
    is_due removes_file (record { dir = d; name = m; others = others }) above count left
next_entry d [] (level ∷ above) count left = is_due (leaves d) level above count left
next_entry d [] [] count left = closes (d ∷ []) (removes count)

abbrev pub finished : Level → List Level → ℕ → ℕ → Turn
finished level above count left = next_entry level.dir level.others above count left

-- the directory that was opened has these entries, which are cleared in order
abbrev pub enters : ℕ → List (List ℕ) → Level → List Level → ℕ → ℕ → Turn
enters h [] level above count left = is_due (leaves h) level above count left
enters h (n ∷ others) level above count left =
    is_due removes_file (record { dir = h; name = n; others = others }) (level ∷ above) count left

-- the target in the directory that the walk found; a walk to its end isn't partial
abbrev pub walked : Way → List ℕ → walk.Turn → Turn
walked way target (walk.more w) = more (walking way target w)
walked way target (walk.found handle names) =
    is_due removes_file (record { dir = handle.number; name = target; others = [] }) [] 0 CLEARING_STEPS_MAX
walked way target (walk.partial handle names rest) = closes (handle.number ∷ []) (fails NotFound)
walked way target (walk.failed error) = failed error

abbrev pub begins : Way → List ℕ → Reading → Turn
begins way target path = walked way target (walk.begins way path)

-- The first turn; `room` is false where a call that would go on found no memory.
abbrev pub for_call : Bool → Turn → Turn
for_call true turn = turn
for_call false (more call) = failed NoMemory
for_call false (removed count) = removed count
for_call false (failed error) = failed error

abbrev pub starts : Way → Bool → List ℕ → Reading → Turn
starts way room target path = for_call room (begins way target path)

-- ---- answers

-- to a removal as what is no directory
abbrev pub file_removed : Level → List Level → ℕ → ℕ → Answer → Turn
file_removed level above count left Done = finished level above (suc count) left
file_removed level above count left (Refused NotFound) = finished level above count left
file_removed level above count left (Refused IsDir) = is_due opens level above count left
file_removed level above count left answer = gives_up removes_file level above (refusal_of answer)

abbrev pub is_opened : Level → List Level → ℕ → ℕ → ℕ → Kind → Turn
is_opened level above count left h kind.Dir = is_due (lists h) level above count left
is_opened level above count left h kind.File = is_due (shuts h) level above count left
is_opened level above count left h kind.Link = is_due (shuts h) level above count left

abbrev pub opened : Level → List Level → ℕ → ℕ → Answer → Turn
opened level above count left (Opened h x kind) = is_opened level above count left h kind
opened level above count left (Refused NotFound) = finished level above count left
opened level above count left answer = gives_up opens level above (refusal_of answer)

-- what there was no room for is closed, and then what is held
abbrev pub listed : Bool → ℕ → Level → List Level → ℕ → ℕ → Answer → Turn
listed true h level above count left (Listed names) = enters h names level above count left
listed false h level above count left (Listed names) = gives_up (lists h) level above NoMemory
listed room h level above count left answer = gives_up (lists h) level above (refusal_of answer)

-- to a removal as a directory
abbrev pub dir_removed : Level → List Level → ℕ → ℕ → Answer → Turn
dir_removed level above count left Done = finished level above (suc count) left
dir_removed level above count left (Refused NotFound) = finished level above count left
dir_removed level above count left (Refused NotEmpty) = is_due opens level above count left
dir_removed level above count left (Refused NotDir) = is_due removes_file level above count left
dir_removed level above count left answer = gives_up removes_dir level above (refusal_of answer)

-- What an answer makes of a call; `room` is false where what it brings found no memory. The answer to a Close isn't
-- looked at.
abbrev pub take : Bool → Removing → Answer → Turn
take room (walking way target w) answer = walked way target (walk.take way room w answer)
take room (clearing removes_file level above count left) answer = file_removed level above count left answer
take room (clearing opens level above count left) answer = opened level above count left answer
take room (clearing (lists h) level above count left) answer = listed room h level above count left answer
take room (clearing (shuts h) level above count left) answer = is_due removes_file level above count left
take room (clearing (leaves h) level above count left) answer = is_due removes_dir level above count left
take room (clearing removes_dir level above count left) answer = dir_removed level above count left answer
take room (closing h hs end) answer = closes hs end

abbrev pub due_at : Stage → Level → StepWith ℕ
due_at removes_file level = RemoveFile level.dir level.name
due_at opens level = Open level.dir level.name
due_at (lists h) level = ListNames h
due_at (shuts h) level = Close h
due_at (leaves h) level = Close h
due_at removes_dir level = RemoveDir level.dir level.name

abbrev pub due : Removing → StepWith ℕ
due (walking way target w) = walk.due way w
due (clearing stage level above count left) = due_at stage level
due (closing h hs end) = Close h

-- ---- a call's lines

-- the call that goes on, where it does
abbrev pub under_way : Turn → Option Removing
under_way (more call) = Some call
under_way (removed count) = None
under_way (failed error) = None

-- calls, step by step
abbrev pub calls : Machine Turn Removing
calls = record { more = more; under_way = under_way; due = due; IsUnmade = λ c. IsUnmade (due c); take = take }

-- These lines, one by one, lead from one turn to another.
abbrev pub LeadsTo : Turn → List Line → Turn → Type 0
LeadsTo = machine.LeadsTo calls

-- ---- how many steps are left at most

-- two for each step of clearing, which may open a handle that is to be closed; and what is held
abbrev pub steps_left : Removing → ℕ
steps_left (walking way target w) = walk.steps_left w + (2 * CLEARING_STEPS_MAX + 1)
steps_left (clearing stage level above count left) = 2 * suc left + length (before stage (dirs (level ∷ above)))
steps_left (closing h hs end) = suc (length hs)
