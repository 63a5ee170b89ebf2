-- Each answer leaves fewer steps to come.
use Rattle.std.specs.Prelude.{ℕ, zero, suc, ◌+◌, ◌*◌, ◌<◌, List, [], ◌∷◌, Bool, true, false, length}
use Rattle.std.proofs.Common.{subst, arith}
use Rattle.path_text.specs.declared.errno.Errno.{Errno}
use Rattle.path_text.specs.declared.errno.Errno.TheVariants.{NotFound, NoMemory, Busy, NotDir, IsDir, NotEmpty}
use Rattle.tree_model.specs.declared.answer.Answer.{Answer}
use Rattle.tree_model.specs.declared.answer.Answer.TheVariants.{Opened, Listed, Done, Refused}
use Rattle.tree_model.specs.declared.step.Kind.TheVariants as kind
use Rattle.step_resolver.specs.Order.{Way, refusal_of}
use Rattle.step_resolver.specs.Order as walk
use Rattle.step_resolver.proofs.WalkSteps.{FewerThan as FewerOnWalk, take_lowers as walk_lowers, a_step_left}
use Rattle.bulk_ops.specs.declared.remove_all.clearing.TheConstants.{CLEARING_STEPS_MAX}
use Rattle.bulk_ops.specs.declared.turn.BulkTurn.{BulkTurn}
use Rattle.bulk_ops.specs.declared.turn.BulkTurn.TheVariants as outcome
use Rattle.bulk_ops.specs.RemoveAllOrder.{Level, Stage, removes_file, opens, lists, shuts, leaves, removes_dir, End, fails, removes, Removing, walking, clearing, closing, Turn, more, removed, failed, dirs, before, ends, closes, is_due, next_entry, enters, gives_up, walked, file_removed, opened, listed, dir_removed, take, steps_left}
use Rattle.bulk_ops.specs.RemoveAllTurnView.{IsTurn, TakesTo, steps_to_come}

-- fewer than this many steps are left, where the call goes on
abbrev pub FewerThan : ℕ → Turn → Type 0
FewerThan k (more call) = steps_left call < k
FewerThan k (removed count) = Unit {0}
FewerThan k (failed error) = Unit {0}

ended : (k : ℕ) (end : End) → FewerThan k (ends end)
ended k (fails error) = tt
ended k (removes count) = tt

closed : (k : ℕ) (hs : List ℕ) (end : End) → length hs < k → FewerThan k (closes hs end)
closed k [] end few = ended k end
closed k (h ∷ hs) end few = omega arith

-- steps of clearing are left, each of which counts twice, and so many handles are held
due_few : (k : ℕ) (stage : Stage) (level : Level) (above : List Level) (count left : ℕ)
    → 2 * left + length (before stage (dirs (level ∷ above))) < k → FewerThan k (is_due stage level above count left)
due_few k stage level above count zero few = closed k (before stage (dirs (level ∷ above))) (fails Busy) (omega arith)
due_few k stage level above count (suc left) few = few

given_up : (k : ℕ) (stage : Stage) (level : Level) (above : List Level) (error : Errno)
    → length (before stage (dirs (level ∷ above))) < k → FewerThan k (gives_up stage level above error)
given_up k stage level above error few = closed k (before stage (dirs (level ∷ above))) (fails error) few

next_few : (k d : ℕ) (others : List (List ℕ)) (above : List Level) (count left : ℕ) → 2 * left + suc (length (dirs above)) < k
    → FewerThan k (next_entry d others above count left)
next_few k d (m ∷ others) above count left few = due_few k removes_file (record { dir = d; name = m; others = others }) above count left few
next_few k d [] (level ∷ above) count left few = due_few k (leaves d) level above count left few
next_few k d [] [] count left few = closed k (d ∷ []) (removes count) (omega arith)

enters_few : (k h : ℕ) (names : List (List ℕ)) (level : Level) (above : List Level) (count left : ℕ) → 2 * left + suc (suc (length (dirs above))) < k
    → FewerThan k (enters h names level above count left)
enters_few k h [] level above count left few = due_few k (leaves h) level above count left few
enters_few k h (n ∷ others) level above count left few = due_few k removes_file (record { dir = h; name = n; others = others }) (level ∷ above) count left few

pub walked_few : (way : Way) (target : List ℕ) (k : ℕ) (turn : walk.Turn) → 0 < k → FewerOnWalk k turn → FewerThan (k + (2 * CLEARING_STEPS_MAX + 1)) (walked way target turn)
walked_few way target k (walk.more w) some few = omega (arith, few)
walked_few way target k (walk.found handle names) some few =
    due_few (k + (2 * CLEARING_STEPS_MAX + 1)) removes_file (record { dir = handle.number; name = target; others = [] }) [] 0 CLEARING_STEPS_MAX (omega arith)
walked_few way target k (walk.partial handle names rest) some few = closed (k + (2 * CLEARING_STEPS_MAX + 1)) (handle.number ∷ []) (fails NotFound) (omega arith)
walked_few way target k (walk.failed error) some few = tt

module _ (level : Level) (above : List Level) (count left : ℕ) where
  abbrev k : ℕ
  k = 2 * suc left + suc (length (dirs above))

  file_few : (answer : Answer) → FewerThan k (file_removed level above count left answer)
  file_few Done = next_few k level.dir level.others above (suc count) left (omega arith)
  file_few (Refused NotFound) = next_few k level.dir level.others above count left (omega arith)
  file_few (Refused IsDir) = due_few k opens level above count left (omega arith)
  file_few answer = given_up k removes_file level above (refusal_of answer) (omega arith)

  opened_few : (answer : Answer) → FewerThan k (opened level above count left answer)
  opened_few (Opened h x kind.Dir) = due_few k (lists h) level above count left (omega arith)
  opened_few (Opened h x kind.File) = due_few k (shuts h) level above count left (omega arith)
  opened_few (Opened h x kind.Link) = due_few k (shuts h) level above count left (omega arith)
  opened_few (Refused NotFound) = next_few k level.dir level.others above count left (omega arith)
  opened_few answer = given_up k opens level above (refusal_of answer) (omega arith)

  abbrev with_child : ℕ
  with_child = 2 * suc left + suc (suc (length (dirs above)))

  listed_few : (room : Bool) (h : ℕ) (answer : Answer) → FewerThan with_child (listed room h level above count left answer)
  listed_few true h (Listed names) = enters_few with_child h names level above count left (omega arith)
  listed_few false h (Listed names) = given_up with_child (lists h) level above NoMemory (omega arith)
  listed_few room h answer = given_up with_child (lists h) level above (refusal_of answer) (omega arith)

  dir_few : (answer : Answer) → FewerThan k (dir_removed level above count left answer)
  dir_few Done = next_few k level.dir level.others above (suc count) left (omega arith)
  dir_few (Refused NotFound) = next_few k level.dir level.others above count left (omega arith)
  dir_few (Refused NotEmpty) = due_few k opens level above count left (omega arith)
  dir_few (Refused NotDir) = due_few k removes_file level above count left (omega arith)
  dir_few answer = given_up k removes_dir level above (refusal_of answer) (omega arith)

pub take_lowers : (room : Bool) (removing : Removing) (answer : Answer) → FewerThan (steps_left removing) (take room removing answer)
take_lowers room (walking way target w) answer =
    walked_few way target (walk.steps_left w) (walk.take way room w answer) (a_step_left w) (walk_lowers way room w answer)
take_lowers room (clearing removes_file level above count left) answer = file_few level above count left answer
take_lowers room (clearing opens level above count left) answer = opened_few level above count left answer
take_lowers room (clearing (lists h) level above count left) answer = listed_few level above count left room h answer
take_lowers room (clearing (shuts h) level above count left) answer = due_few _ removes_file level above count left (omega arith)
take_lowers room (clearing (leaves h) level above count left) answer = due_few _ removes_dir level above count left (omega arith)
take_lowers room (clearing removes_dir level above count left) answer = dir_few level above count left answer
take_lowers room (closing h hs end) answer = closed (suc (length hs)) hs end (omega arith)

pub a_call_left : (removing : Removing) → 0 < steps_left removing
a_call_left (walking way target w) = omega arith
a_call_left (clearing stage level above count left) = omega arith
a_call_left (closing h hs end) = omega arith

lowers : (k : ℕ) (result : BulkTurn Removing) (turn : Turn) → 0 < k → IsTurn result turn → FewerThan k turn → steps_to_come result < k
lowers k (outcome.More call) turn some is few = subst (FewerThan k) is few
lowers k (outcome.Made standing) turn some is few = absurd is
lowers k (outcome.Removed count) turn some is few = some
lowers k (outcome.Failed error) turn some is few = some

pub taken_lowers : (removing : Removing) (answer : Answer) (result : BulkTurn Removing) → TakesTo removing answer result → steps_to_come result < steps_left removing
taken_lowers removing answer result taken =
    lowers (steps_left removing) result (take taken.0 removing answer) (a_call_left removing) taken.1 (take_lowers taken.0 removing answer)
