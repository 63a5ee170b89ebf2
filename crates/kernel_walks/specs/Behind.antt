-- An operation on one entry makes its change behind a walk: a resolve's of the directory part, then one step on the
-- last name by the handle that it found, and its Close. Of no history. mknodat(2), mkdirat(2), symlinkat(2),
-- unlinkat(2).
use Rattle.std.specs.Prelude.{◌≡◌, ℕ, List, [], ◌∷◌, ◌++◌, true}
use Rattle.path_text.specs.declared.errno.Errno.TheVariants.{NotFound}
use Rattle.path_text.specs.declared.path.Rule.{Rule}
use Rattle.path_text.specs.declared.path.Rule.TheVariants.{Drop, Refuse}
use Rattle.path_text.specs.declared.path.Split.{Split}
use Rattle.path_text.specs.Split.{parts_without_slash}
use Rattle.path_text.specs.Text.{reading_of}
use Rattle.tree_model.specs.StepWith.{StepWith}
use Rattle.tree_model.specs.declared.answer.Answer.TheVariants.{Names}
use Rattle.tree_model.specs.declared.step.StepOf.TheVariants.{Close, NameBelow}
use Rattle.walk_plan.specs.declared.goal.Goal.TheVariants.{Follow}
use Rattle.step_resolver.specs.Order.{Handle, Line, answered, no_room, not_made, answer_of, IsUnmade}
use Rattle.step_resolver.specs.Order as walk
use Rattle.step_resolver.specs.View.{way_from}
use Rattle.root_ops.specs.declared.aim.Change.{Change}
use Rattle.root_ops.specs.declared.aim.Change.TheVariants as changes
use Rattle.root_ops.specs.declared.aim.Wanted.TheVariants as wants
use Rattle.root_ops.specs.declared.below.Below.{Below}
use Rattle.root_ops.specs.declared.op.Op.{Op}
use Rattle.root_ops.specs.declared.op.Op.TheVariants.{CreateFile, CreateDir, CreateLink, RemoveFile, RemoveDir}
use Rattle.root_ops.specs.Acts.{IsEntry}
use Rattle.root_ops.specs.CallHistory.{IsPath}
use Rattle.root_ops.specs.Order.{Reply, fault, change_step, reply_to, starts, ends, LeadsTo}

-- the operation makes this change of the entry of this path, whose slash at the end is treated so
abbrev pub IsChangeOf : Op → Rule → Change → List ℕ → Type 0
IsChangeOf (CreateFile path) rule change text = (rule ≡ Refuse) × ((change ≡ changes.MakeFile) × (text ≡ path))
IsChangeOf (CreateDir path) rule change text = (rule ≡ Drop) × ((change ≡ changes.MakeDir) × (text ≡ path))
IsChangeOf (CreateLink path target) rule change text =
    (rule ≡ Refuse) × ((change ≡ changes.MakeLink target) × (text ≡ path))
IsChangeOf (RemoveFile path) rule change text = (rule ≡ Refuse) × ((change ≡ changes.RemoveFile) × (text ≡ path))
IsChangeOf (RemoveDir path) rule change text = (rule ≡ Drop) × ((change ≡ changes.RemoveDir) × (text ≡ path))
IsChangeOf other rule change text = ⊥

-- this step with its answer; or it wasn't made for a want, which counts as its refusal
abbrev pub IsLineOf : StepWith ℕ → Line → Type 0
IsLineOf step (answered made answer) = made ≡ step
IsLineOf step (no_room made answer) = made ≡ step
IsLineOf step (not_made error) = IsUnmade step error

-- One step by this handle, on the last name, whose answer is the reply; and the handle's Close.
pub record ActsBehind (change : Change) (dir : Handle) (name : List ℕ) (lines : List Line)
    (reply : Reply) : Type 0 where
  pub step : Line
  pub close : Line
  pub both : lines ≡ step ∷ close ∷ []
  pub is_step : IsLineOf (change_step change dir.number name) step
  pub is_close : IsLineOf (Close dir.number) close
  pub is_reply : reply ≡ reply_to wants.Done (answer_of step)

-- What comes behind a walk that ends so: the change where it found the directory, and nothing where it failed. None
-- ends with a rest of its path, since it isn't after the deepest directory; then nothing would be changed either.
abbrev pub Behind : Change → List ℕ → walk.Turn → List Line → Reply → Type 0
Behind change name (walk.found dir names) lines reply = ActsBehind change dir name lines reply
Behind change name (walk.failed error) lines reply = (lines ≡ []) × (reply ≡ fault error)
Behind change name (walk.partial dir names rest) lines reply = reply ≡ fault NotFound
Behind change name (walk.more walk) lines reply = ⊥

-- The lines are those of the walk of the directory part, the last link followed, and what comes behind it.
pub record IsBehindWalk (below : Below) (change : Change) (split : Split) (lines : List Line)
    (reply : Reply) : Type 0 where
  pub first : List Line
  pub rest : List Line
  pub whole : lines ≡ first ++ rest
  pub end : walk.Turn
  pub walked : walk.LeadsTo (way_from below.root Follow below.flags)
      (walk.begins (way_from below.root Follow below.flags) split.dir) first end
  pub behind : Behind change split.name end rest reply

-- So it is of each change of an entry.
abbrev pub EntriesAreChangedBehindWalks : Type 0
EntriesAreChangedBehindWalks = (below : Below) (op : Op) (rule : Rule) (change : Change) (text : List ℕ) (split : Split)
    (lines : List Line) (reply : Reply) → IsChangeOf op rule change text → IsEntry text rule split
    → LeadsTo below (starts below true op) lines (ends reply) → IsBehindWalk below change split lines reply

-- ---- one look-up of the directory part

-- the text is a path that is walked as the directory part, but for a slash at its end
pub record IsDirectoryText (text : List ℕ) (split : Split) : Type 0 where
  pub is_path : IsPath text
  pub absolute : (reading_of text).absolute ≡ split.dir.absolute
  pub parts : parts_without_slash (reading_of text) ≡ split.dir.parts

-- the question where the object stands, with these names
abbrev pub asks_below : Below → Handle → List (List ℕ) → Line
asks_below below handle names = answered (NameBelow below.root.handle handle.number) (Names names)
