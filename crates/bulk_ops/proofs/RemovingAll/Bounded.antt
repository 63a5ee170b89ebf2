-- After its steps of clearing a call only closes.
use Rattle.std.specs.Prelude.{ℕ, zero, suc, ◌≤◌, List, [], ◌∷◌, Bool, true, false, drop}
use Rattle.std.proofs.Common.{le_refl, not-suc-le-zero, arith}
use Rattle.path_text.specs.declared.errno.Errno.{Errno}
use Rattle.path_text.specs.declared.errno.Errno.TheVariants.{NotFound, NoMemory, Busy, NotDir, IsDir, NotEmpty}
use Rattle.tree_model.specs.declared.answer.Answer.{Answer}
use Rattle.tree_model.specs.declared.answer.Answer.TheVariants.{Opened, Listed, Done, Refused}
use Rattle.tree_model.specs.declared.step.Kind.TheVariants as kind
use Rattle.step_machine.specs.Machine.{taken}
use Rattle.step_resolver.specs.Order.{Way, Handle, refusal_of, Line, answered, no_room, not_made, has_room, answer_of}
use Rattle.step_resolver.specs.Order as walk
use Rattle.bulk_ops.specs.declared.remove_all.clearing.TheConstants.{CLEARING_STEPS_MAX}
use Rattle.bulk_ops.specs.RemoveAllOrder.{Level, Stage, removes_file, opens, lists, shuts, leaves, removes_dir, End, fails, removes, Removing, walking, clearing, closing, Turn, more, removed, failed, dirs, before, closes, is_due, next_entry, enters, gives_up, walked, file_removed, opened, listed, dir_removed, take, LeadsTo, calls}
use Rattle.bulk_ops.specs.RemoveAllTells.{AllClose}

-- so many steps of clearing are to come at most
abbrev pub Within : ℕ → Turn → Type 0
Within k (more (walking way target w)) = ⊥
Within k (more (clearing stage level above count left)) = suc left ≤ k
Within k (more (closing h hs end)) = Unit {0}
Within k (removed count) = Unit {0}
Within k (failed error) = Unit {0}

closes_within : (k : ℕ) (hs : List ℕ) (end : End) → Within k (closes hs end)
closes_within k [] (fails error) = tt
closes_within k [] (removes count) = tt
closes_within k (h ∷ hs) end = tt

due_within : (k : ℕ) (stage : Stage) (level : Level) (above : List Level) (count left : ℕ) → left ≤ k → Within k (is_due stage level above count left)
due_within k stage level above count zero le = closes_within k (before stage (dirs (level ∷ above))) (fails Busy)
due_within k stage level above count (suc left) le = le

next_within : (k d : ℕ) (others : List (List ℕ)) (above : List Level) (count left : ℕ) → left ≤ k → Within k (next_entry d others above count left)
next_within k d (m ∷ others) above count left le = due_within k removes_file (record { dir = d; name = m; others = others }) above count left le
next_within k d [] (level ∷ above) count left le = due_within k (leaves d) level above count left le
next_within k d [] [] count left le = closes_within k (d ∷ []) (removes count)

enters_within : (k h : ℕ) (names : List (List ℕ)) (level : Level) (above : List Level) (count left : ℕ) → left ≤ k → Within k (enters h names level above count left)
enters_within k h [] level above count left le = due_within k (leaves h) level above count left le
enters_within k h (n ∷ others) level above count left le = due_within k removes_file (record { dir = h; name = n; others = others }) (level ∷ above) count left le

pub clearing_begins : (way : Way) (target : List ℕ) (handle : Handle) (names : List (List ℕ)) → Within CLEARING_STEPS_MAX (walked way target (walk.found handle names))
clearing_begins way target handle names =
    due_within CLEARING_STEPS_MAX removes_file (record { dir = handle.number; name = target; others = [] }) [] 0 CLEARING_STEPS_MAX (le_refl CLEARING_STEPS_MAX)

module _ (k : ℕ) (level : Level) (above : List Level) (count left : ℕ) (le : left ≤ k) where
  given_up : (stage : Stage) (error : Errno) → Within k (gives_up stage level above error)
  given_up stage error = closes_within k (before stage (dirs (level ∷ above))) (fails error)

  file_within : (answer : Answer) → Within k (file_removed level above count left answer)
  file_within Done = next_within k level.dir level.others above (suc count) left le
  file_within (Refused NotFound) = next_within k level.dir level.others above count left le
  file_within (Refused IsDir) = due_within k opens level above count left le
  file_within answer = given_up removes_file (refusal_of answer)

  opened_within : (answer : Answer) → Within k (opened level above count left answer)
  opened_within (Opened h x kind.Dir) = due_within k (lists h) level above count left le
  opened_within (Opened h x kind.File) = due_within k (shuts h) level above count left le
  opened_within (Opened h x kind.Link) = due_within k (shuts h) level above count left le
  opened_within (Refused NotFound) = next_within k level.dir level.others above count left le
  opened_within answer = given_up opens (refusal_of answer)

  listed_within : (room : Bool) (h : ℕ) (answer : Answer) → Within k (listed room h level above count left answer)
  listed_within true h (Listed names) = enters_within k h names level above count left le
  listed_within false h (Listed names) = given_up (lists h) NoMemory
  listed_within room h answer = given_up (lists h) (refusal_of answer)

  dir_within : (answer : Answer) → Within k (dir_removed level above count left answer)
  dir_within Done = next_within k level.dir level.others above (suc count) left le
  dir_within (Refused NotFound) = next_within k level.dir level.others above count left le
  dir_within (Refused NotEmpty) = due_within k opens level above count left le
  dir_within (Refused NotDir) = due_within k removes_file level above count left le
  dir_within answer = given_up removes_dir (refusal_of answer)

take_within : (room : Bool) (call : Removing) (answer : Answer) (k : ℕ) → Within (suc k) (more call) → Within k (take room call answer)
take_within room (walking way target w) answer k within = absurd within
take_within room (clearing removes_file level above count left) answer k within = file_within k level above count left (omega (arith, within)) answer
take_within room (clearing opens level above count left) answer k within = opened_within k level above count left (omega (arith, within)) answer
take_within room (clearing (lists h) level above count left) answer k within = listed_within k level above count left (omega (arith, within)) room h answer
take_within room (clearing (shuts h) level above count left) answer k within = due_within k removes_file level above count left (omega (arith, within))
take_within room (clearing (leaves h) level above count left) answer k within = due_within k removes_dir level above count left (omega (arith, within))
take_within room (clearing removes_dir level above count left) answer k within = dir_within k level above count left (omega (arith, within)) answer
take_within room (closing h hs end) answer k within = closes_within k hs end

all_close : (lines : List Line) (turn end : Turn) → Within 0 turn → LeadsTo turn lines end → AllClose lines
all_close [] turn end within leads = tt
all_close (line ∷ lines) (removed count) end within leads = absurd leads
all_close (line ∷ lines) (failed error) end within leads = absurd leads
all_close (line ∷ lines) (more (walking way target w)) end within leads = absurd within
all_close (line ∷ lines) (more (clearing stage level above count left)) end within leads = absurd (not-suc-le-zero within)
all_close (answered step answer ∷ lines) (more (closing h hs last)) end within leads = ((h, leads.0), all_close lines (closes hs last) end (closes_within 0 hs last) leads.1)
all_close (no_room step answer ∷ lines) (more (closing h hs last)) end within leads = ((h, leads.0), all_close lines (closes hs last) end (closes_within 0 hs last) leads.1)
all_close (not_made error ∷ lines) (more (closing h hs last)) end within leads = cc (leads.0.1)

pub lines_bounded : (k : ℕ) (lines : List Line) (turn end : Turn) → Within k turn → LeadsTo turn lines end → AllClose (drop k lines)
lines_bounded zero lines turn end within leads = all_close lines turn end within leads
lines_bounded (suc k) [] turn end within leads = tt
lines_bounded (suc k) (line ∷ lines) (removed count) end within leads = absurd leads
lines_bounded (suc k) (line ∷ lines) (failed error) end within leads = absurd leads
lines_bounded (suc k) (line ∷ lines) (more call) end within leads =
    lines_bounded k lines (taken calls call line) end (take_within (has_room line) call (answer_of line) k within) leads.1
