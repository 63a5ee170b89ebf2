-- What a call does once its walks are over, in every legal history: which own event makes its change, on what the
-- walk found, as the step table says at that event's moment; and what a fault's cause is. mknod(2), mkdir(2),
-- symlink(2), readlink(2), unlink(2), rmdir(2), rename(2), renameat2(2).
use Rattle.std.specs.Prelude.{◌≡◌, ◌≢◌, ℕ, suc, ◌<◌, ◌≤◌, List, [], length, true, Some, None, Result, Ok, Err}
use Rattle.path_text.specs.declared.errno.Errno.{Errno}
use Rattle.path_text.specs.declared.errno.Errno.TheVariants.{NoMemory, TooMany}
use Rattle.path_text.specs.declared.path.Rule.{Rule}
use Rattle.path_text.specs.declared.path.Rule.TheVariants.{Drop, Refuse}
use Rattle.path_text.specs.declared.path.Split.{Split}
use Rattle.path_text.specs.Reading.{Reading}
use Rattle.path_text.specs.Split.{split_of}
use Rattle.path_text.specs.Text.{text_fault, reading_of}
use Rattle.tree_model.specs.declared.answer.Answer.{Answer}
use Rattle.tree_model.specs.declared.answer.Answer.TheVariants.{Text, Done, Refused}
use Rattle.tree_model.specs.declared.inode.Inode.{Inode}
use Rattle.tree_model.specs.declared.inode.Object.TheVariants as object
use Rattle.tree_model.specs.declared.step.Mode.{Mode}
use Rattle.tree_model.specs.declared.step.StepOf.TheVariants as steps
use Rattle.tree_model.specs.State.{object_at}
use Rattle.tree_model.specs.Entries.{makes, makes_link, removes_file, removes_dir, renames}
use Rattle.tree_model.specs.Steps.{held, held_count, is_full}
use Rattle.walk_plan.specs.declared.goal.Goal.{Goal}
use Rattle.walk_plan.specs.declared.goal.Goal.TheVariants.{Follow, NoFollow}
use Rattle.step_resolver.specs.Failures.{TellsWant}
use Rattle.step_resolver.specs.Order.{Handle, IsWant, found, failed}
use Rattle.step_resolver.specs.Order as walk
use Rattle.step_resolver.specs.View.{way_from}
use Rattle.step_resolver.specs.WalkHistory.{WalkInHistory, begin_of, state_at, timeline}
pub use Rattle.bulk_ops.specs.WalkFirst.{event_at, LeavesEntries, AllLeaveEntries, WalkedTo, after_walk}
use Rattle.root_ops.specs.declared.aim.Change.{Change}
use Rattle.root_ops.specs.declared.aim.Change.TheVariants as changes
use Rattle.root_ops.specs.declared.aim.Renaming.{Renaming}
use Rattle.root_ops.specs.declared.op.Op.{Op}
use Rattle.root_ops.specs.declared.op.Op.TheVariants.{Resolve, ResolveNoFollow, ReadLink, CreateFile, CreateDir, CreateLink, RemoveFile, RemoveDir, Rename, MkdirAll, RemoveAll, Single, Release}
use Rattle.root_ops.specs.BulkTells.{bulk_of}
use Rattle.root_ops.specs.CallHistory.{CallInHistory, IsCallInHistory, RepliesWith, IsPath, EndsAtOnce}
use Rattle.root_ops.specs.Meaning.{text_of, no_directory}
use Rattle.root_ops.specs.Order.{Reply, link_text, done, fault, change_step, rename_step, renaming_of}

-- ---- a walk of a call

-- a call's window, as that of a walk below the call's root along this path, with the call's flags
abbrev pub along : CallInHistory → Goal → Reading → WalkInHistory
along c goal path = bulk_of c (way_from c.below.root goal c.below.flags) path

-- the same part, with another path
abbrev pub on_path : Reading → WalkInHistory → WalkInHistory
on_path path w = record w { path = path }

-- ---- the call's own step

-- the handle is open on its node at moment t
abbrev pub IsOpenAt : WalkInHistory → ℕ → Handle → Type 0
IsOpenAt w t handle = held (state_at w t) w.actor handle.number ≡ Some handle.node

-- each own event but this one leaves all entries
abbrev pub OthersLeave : WalkInHistory → ℕ → Type 0
OthersLeave w when = (t : ℕ) → t ≢ when → (timeline w).is_own t ≡ true → LeavesEntries w t

-- what the step table makes of the entry of a name in directory d, or the refusal
abbrev pub change_of : Change → List Inode → ℕ → List ℕ → Result (List Inode) Errno
change_of changes.MakeFile nodes d n = makes nodes d n object.File
change_of changes.MakeDir nodes d n = makes nodes d n object.Dir
change_of (changes.MakeLink text) nodes d n = makes_link nodes d n text
change_of changes.RemoveFile nodes d n = removes_file nodes d n
change_of changes.RemoveDir nodes d n = removes_dir nodes d n

-- One own event changes entries: the change's step through the handle, which is open on the directory then. It makes
-- of the entries of its moment what the change makes in that directory.
pub record ChangesOnce (w : WalkInHistory) (change : Change) (dir : Handle) (name : List ℕ) : Type 0 where
  pub when : ℕ
  pub event : event_at w when (change_step change dir.number name) Done
  pub is_open : IsOpenAt w when dir
  pub made : change_of change ((timeline w).nodes_at when) dir.node name ≡ Ok ((timeline w).nodes_at (suc when))
  pub others : OthersLeave w when

-- The step was refused, as the change is in that directory at its moment.
pub record ChangeRefused (w : WalkInHistory) (change : Change) (dir : Handle) (name : List ℕ)
    (error : Errno) : Type 0 where
  pub when : ℕ
  pub event : event_at w when (change_step change dir.number name) (Refused error)
  pub is_open : IsOpenAt w when dir
  pub refused : change_of change ((timeline w).nodes_at when) dir.node name ≡ Err error

-- an own event read the object, which has that text; or the step was refused, since it has none
pub record ReadsText (w : WalkInHistory) (link : Handle) (text : List ℕ) : Type 0 where
  pub when : ℕ
  pub event : event_at w when (steps.ReadLink link.number) (Text text)
  pub is_open : IsOpenAt w when link
  pub has_text : text_of (object_at ((timeline w).nodes_at when) link.node) ≡ Ok text

pub record ReadRefused (w : WalkInHistory) (link : Handle) (error : Errno) : Type 0 where
  pub when : ℕ
  pub event : event_at w when (steps.ReadLink link.number) (Refused error)
  pub is_open : IsOpenAt w when link
  pub no_text : text_of (object_at ((timeline w).nodes_at when) link.node) ≡ Err error

-- ---- an operation on one entry

-- the text is a path with this directory part and last name
abbrev pub IsEntry : List ℕ → Rule → Split → Type 0
IsEntry text rule split = IsPath text × (split_of (reading_of text) rule ≡ Ok split)

-- the walk opened one handle more than before at most
abbrev pub OneMoreHeld : {w : WalkInHistory} {end : walk.Turn} → WalkedTo w end → Type 0
OneMoreHeld {w} walked = held_count (begin_of (after_walk walked)) w.actor ≤ suc (held_count (begin_of w) w.actor)

-- The walk to the entry's directory, the last link followed, found it. At most five steps are asked for after it.
pub record FindsDirectory (c : CallInHistory) (text : List ℕ) (rule : Rule) : Type 0 where
  pub split : Split
  pub entry : IsEntry text rule split
  pub dir : Handle
  pub names : List (List ℕ)
  pub walked : WalkedTo (along c Follow split.dir) (found dir names)
  pub few : length walked.rest ≤ 5

-- The change was made, on the last name in the directory found.
pub record EntryChanged (c : CallInHistory) (rule : Rule) (change : Change) (text : List ℕ) : Type 0 where
  pub finds : FindsDirectory c text rule
  pub did : ChangesOnce (after_walk finds.walked) change finds.dir finds.split.name

-- Why it wasn't: a text that is no path or has no such name, or no memory for the first turn, without a step; the
-- walk's fault, which is all that the call did; the step's refusal; or a want met after the walk. Nothing was
-- changed.
pub data EntryFault (c : CallInHistory) (rule : Rule) (change : Change) (text : List ℕ) (error : Errno) : Type 0 where
  at_once : EndsAtOnce c text error → EntryFault c rule change text error
  nameless : IsPath text → split_of (reading_of text) rule ≡ Err error → c.lines ≡ []
      → EntryFault c rule change text error
  walk_fails : (split : Split) → IsEntry text rule split
      → (walked : WalkedTo (along c Follow split.dir) (failed error)) → walked.rest ≡ []
      → EntryFault c rule change text error
  change_refused : (finds : FindsDirectory c text rule)
      → ChangeRefused (after_walk finds.walked) change finds.dir finds.split.name error
      → AllLeaveEntries (after_walk finds.walked) → EntryFault c rule change text error
  in_want : (finds : FindsDirectory c text rule) → IsWant error → TellsWant error finds.walked.rest
      → AllLeaveEntries (after_walk finds.walked)
      → EntryFault c rule change text error

abbrev pub EntryTells : CallInHistory → Rule → Change → List ℕ → Reply → Type 0
EntryTells c rule change text done = EntryChanged c rule change text
EntryTells c rule change text (fault error) = EntryFault c rule change text error
EntryTells c rule change text other = ⊥

-- ---- read link

-- The walk found the object, the last link not followed. At most five steps are asked for after it.
pub record FindsLink (c : CallInHistory) (text : List ℕ) : Type 0 where
  pub is_path : IsPath text
  pub link : Handle
  pub names : List (List ℕ)
  pub walked : WalkedTo (along c NoFollow (reading_of text)) (found link names)
  pub few : length walked.rest ≤ 5

pub record LinkRead (c : CallInHistory) (text told : List ℕ) : Type 0 where
  pub finds : FindsLink c text
  pub did : ReadsText (after_walk finds.walked) finds.link told
  pub leaves : AllLeaveEntries (after_walk finds.walked)

pub data ReadFault (c : CallInHistory) (text : List ℕ) (error : Errno) : Type 0 where
  read_at_once : EndsAtOnce c text error → ReadFault c text error
  read_walk_fails : IsPath text → (walked : WalkedTo (along c NoFollow (reading_of text)) (failed error))
      → walked.rest ≡ [] → ReadFault c text error
  read_refused : (finds : FindsLink c text) → ReadRefused (after_walk finds.walked) finds.link error
      → AllLeaveEntries (after_walk finds.walked)
      → ReadFault c text error
  read_in_want : (finds : FindsLink c text) → IsWant error → TellsWant error finds.walked.rest
      → AllLeaveEntries (after_walk finds.walked)
      → ReadFault c text error

abbrev pub ReadTells : CallInHistory → List ℕ → Reply → Type 0
ReadTells c text (link_text told) = LinkRead c text told
ReadTells c text (fault error) = ReadFault c text error
ReadTells c text other = ⊥

-- ---- rename

-- The old path's walk found a directory; after it the new path's did, with the same flags, begun at any moment from
-- the first one's end to its own first event. At most five steps are asked for after both.
pub record FindsBoth (c : CallInHistory) (from to : Split) : Type 0 where
  pub old : Handle
  pub old_names : List (List ℕ)
  pub first : WalkedTo (along c Follow from.dir) (found old old_names)
  pub new : Handle
  pub new_names : List (List ℕ)
  pub second : WalkedTo (on_path to.dir (after_walk first)) (found new new_names)
  pub one_more : OneMoreHeld first
  pub two_more : OneMoreHeld second
  pub few : length second.rest ≤ 5

-- what comes after both walks
abbrev pub after_both : {c : CallInHistory} {from to : Split} → FindsBoth c from to → WalkInHistory
after_both both = after_walk both.second

-- an own event before that one opened the entry of the name in the directory, and it was a directory
pub record WasDirectory (w : WalkInHistory) (dir : Handle) (name : List ℕ) (when : ℕ) : Type 0 where
  pub first : ℕ
  pub earlier : first < when
  pub answer : Answer
  pub event : event_at w first (steps.Open dir.number name) answer
  pub is_open : IsOpenAt w first dir
  pub is_dir : no_directory ((timeline w).nodes_at first) dir.node name ≡ None

-- One own event changes entries: the Rename through both handles, which are open on both directories then. It makes
-- of the entries of its moment what a rename makes between them. After a slash the entry was a directory.
pub record RenamesOnce (w : WalkInHistory) (renaming : Renaming) (old new : Handle) : Type 0 where
  pub when : ℕ
  pub event : event_at w when (rename_step renaming old.number new.number) Done
  pub old_open : IsOpenAt w when old
  pub new_open : IsOpenAt w when new
  pub made : renames ((timeline w).nodes_at when) old.node renaming.old new.node renaming.new renaming.mode
      ≡ Ok ((timeline w).nodes_at (suc when))
  pub others : OthersLeave w when
  pub checked : renaming.slash ≡ true → WasDirectory w old renaming.old when

-- Why there is none: the step's refusal; or after a slash that the entry was no directory, or could not be opened
-- for want of handles; or a want.
pub data RenameRefused (w : WalkInHistory) (renaming : Renaming) (old new : Handle) : Errno → Type 0 where
  rename_refused : {error : Errno} (when : ℕ)
      → event_at w when (rename_step renaming old.number new.number) (Refused error) → IsOpenAt w when old
      → IsOpenAt w when new
      → renames ((timeline w).nodes_at when) old.node renaming.old new.node renaming.new renaming.mode ≡ Err error
      → RenameRefused w renaming old new error
  not_directory : {error : Errno} (when : ℕ) (answer : Answer) → renaming.slash ≡ true
      → event_at w when (steps.Open old.number renaming.old) answer → IsOpenAt w when old
      → no_directory ((timeline w).nodes_at when) old.node renaming.old ≡ Some error
      → RenameRefused w renaming old new error
  full : (when : ℕ) → renaming.slash ≡ true → event_at w when (steps.Open old.number renaming.old) (Refused TooMany)
      → is_full (state_at w when) w.actor ≡ true
      → held_count (state_at w when) w.actor ≡ held_count (begin_of w) w.actor
      → RenameRefused w renaming old new TooMany
  rename_in_want : {error : Errno} → IsWant error → TellsWant error w.lines → RenameRefused w renaming old new error

pub record EntryRenamed (c : CallInHistory) (old new : List ℕ) (mode : Mode) : Type 0 where
  pub from : Split
  pub to : Split
  pub old_entry : IsEntry old Drop from
  pub new_entry : IsEntry new Drop to
  pub both : FindsBoth c from to
  pub did : RenamesOnce (after_both both) (renaming_of from to mode) both.old both.new

-- Why it wasn't: a fault of the old text, or no memory for the first turn, or a fault of the new text, without a
-- step; the first walk's fault or the second's, or no memory for this one's first turn; or what comes after both.
-- After the second's fault only the old directory is closed. Nothing was changed.
pub data RenameFault (c : CallInHistory) (old new : List ℕ) (mode : Mode) : Errno → Type 0 where
  rename_at_once : {error : Errno} → EndsAtOnce c old error → RenameFault c old new mode error
  old_nameless : {error : Errno} → IsPath old → split_of (reading_of old) Drop ≡ Err error → c.lines ≡ []
      → RenameFault c old new mode error
  new_text : {error : Errno} (from : Split) → IsEntry old Drop from → text_fault new ≡ Some error → c.lines ≡ []
      → RenameFault c old new mode error
  new_nameless : {error : Errno} (from : Split) → IsEntry old Drop from → IsPath new
      → split_of (reading_of new) Drop ≡ Err error → c.lines ≡ []
      → RenameFault c old new mode error
  of_first : {error : Errno} (from to : Split) → IsEntry old Drop from → IsEntry new Drop to
      → (walked : WalkedTo (along c Follow from.dir) (failed error)) → walked.rest ≡ []
      → RenameFault c old new mode error
  of_second : {error : Errno} (from to : Split) → IsEntry old Drop from → IsEntry new Drop to
      → (dir : Handle) (names : List (List ℕ))
      → (first : WalkedTo (along c Follow from.dir) (found dir names))
      → (second : WalkedTo (on_path to.dir (after_walk first)) (failed error)) → length second.rest ≤ 1
      → OneMoreHeld first → AllLeaveEntries (after_walk second) → RenameFault c old new mode error
  no_second : (from to : Split) → IsEntry old Drop from → IsEntry new Drop to → (dir : Handle) (names : List (List ℕ))
      → (first : WalkedTo (along c Follow from.dir) (found dir names)) → TellsWant NoMemory first.lines
      → AllLeaveEntries (after_walk first)
      → RenameFault c old new mode NoMemory
  of_rename : {error : Errno} (from to : Split) → IsEntry old Drop from → IsEntry new Drop to
      → (both : FindsBoth c from to)
      → RenameRefused (after_both both) (renaming_of from to mode) both.old both.new error
      → AllLeaveEntries (after_both both)
      → RenameFault c old new mode error

abbrev pub RenameTells : CallInHistory → List ℕ → List ℕ → Mode → Reply → Type 0
RenameTells c old new mode done = EntryRenamed c old new mode
RenameTells c old new mode (fault error) = RenameFault c old new mode error
RenameTells c old new mode other = ⊥

-- ---- the whole

-- what the reply tells of the step after the walks; of bulk calls `EachCall.BulkTells` does
abbrev pub ActTells : CallInHistory → Op → Reply → Type 0
ActTells c (Resolve text) reply = Unit {0}
ActTells c (ResolveNoFollow text) reply = Unit {0}
ActTells c (ReadLink text) reply = ReadTells c text reply
ActTells c (CreateFile text) reply = EntryTells c Refuse changes.MakeFile text reply
ActTells c (CreateDir text) reply = EntryTells c Drop changes.MakeDir text reply
ActTells c (CreateLink text target) reply = EntryTells c Refuse (changes.MakeLink target) text reply
ActTells c (RemoveFile text) reply = EntryTells c Refuse changes.RemoveFile text reply
ActTells c (RemoveDir text) reply = EntryTells c Drop changes.RemoveDir text reply
ActTells c (Rename old new mode) reply = RenameTells c old new mode reply
ActTells c (MkdirAll text) reply = Unit {0}
ActTells c (RemoveAll text) reply = Unit {0}
ActTells c (Single step) reply = Unit {0}
ActTells c (Release standing) reply = Unit {0}

-- So it is of each call in each legal history.
abbrev pub CallsAct : Type 0
CallsAct = (c : CallInHistory) (reply : Reply) → IsCallInHistory c → RepliesWith c reply → ActTells c c.op reply
