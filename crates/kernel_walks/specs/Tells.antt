-- What a call tells whose walks the kernel makes as a whole, in every legal history, whoever acts meanwhile: its object
-- was reached by the path's parts and stood below the root as the kernel said so, and its change acts on that object.
-- openat2(2) with RESOLVE_IN_ROOT; mknod(2), mkdir(2), symlink(2), readlink(2), unlink(2), rmdir(2), renameat2(2).
use Rattle.std.specs.Prelude.{◌≡◌, ◌⊎◌, ℕ, ◌≤◌, List, length, true, false}
use Rattle.path_text.specs.declared.errno.Errno.{Errno}
use Rattle.path_text.specs.declared.errno.Errno.TheVariants.{NotDir}
use Rattle.path_text.specs.declared.path.Rule.{Rule}
use Rattle.path_text.specs.declared.path.Rule.TheVariants.{Drop, Refuse}
use Rattle.path_text.specs.declared.path.Split.{Split}
use Rattle.path_text.specs.Text.{reading_of}
use Rattle.tree_model.specs.declared.step.Mode.{Mode}
use Rattle.walk_plan.specs.declared.goal.Goal.{Goal}
use Rattle.walk_plan.specs.declared.goal.Goal.TheVariants.{Follow, NoFollow, Deepest}
use Rattle.step_resolver.specs.Failures.{TellsWant}
use Rattle.step_resolver.specs.Order.{Handle, IsWant, failed, is_dir_kind}
use Rattle.step_resolver.specs.WalkHistory.{WalkInHistory}
use Rattle.bulk_ops.specs.RemoveAllTells.{removals, OnlyTakesAway, IsBounded, IsLastOnTarget, TellsFault}
use Rattle.bulk_ops.specs.WalkFirst.{AllLeaveEntries, WalkedTo, after_walk}
use Rattle.root_ops.specs.declared.aim.Change.{Change}
use Rattle.root_ops.specs.declared.aim.Change.TheVariants as changes
use Rattle.root_ops.specs.declared.op.Op.{Op}
use Rattle.root_ops.specs.declared.op.Op.TheVariants.{Resolve, ResolveNoFollow, ReadLink, CreateFile, CreateDir, CreateLink, RemoveFile, RemoveDir, Rename, MkdirAll, RemoveAll, Single, Release}
use Rattle.root_ops.specs.declared.reply.Reply.{Reply as Told}
use Rattle.root_ops.specs.Acts.{along, on_path, ChangesOnce, ChangeRefused, ReadsText, ReadRefused, RenamesOnce, RenameRefused, IsEntry}
use Rattle.root_ops.specs.CallHistory.{CallInHistory, IsCallInHistory, IsPath, HandlesAfter}
use Rattle.root_ops.specs.EachCall.{CallTells}
use Rattle.root_ops.specs.Order.{Reply, opened, link_text, done, count, fault, renaming_of}
use Rattle.root_ops.specs.Quiet.{IsQuiet}
use Rattle.root_ops.specs.View.{reply_view}
use Rattle.kernel_walks.specs.SeenTo.{SeenTo, after_seen, OneMoreHeld}
use Rattle.kernel_walks.specs.Told.{RepliesAsTold}

-- ---- an object

-- the walk along the text found what was opened
abbrev pub ResolveSees : CallInHistory → Goal → List ℕ → Reply → Type 0
ResolveSees c goal text (opened handle names) = IsPath text × SeenTo (along c goal (reading_of text)) handle names
ResolveSees c goal text other = ⊥

-- ---- an operation on one entry

-- The walk to the entry's directory, the last link followed, found it. At most five steps are asked for after it.
pub record SeesDirectory (c : CallInHistory) (text : List ℕ) (rule : Rule) : Type 0 where
  pub split : Split
  pub entry : IsEntry text rule split
  pub dir : Handle
  pub names : List (List ℕ)
  pub seen : SeenTo (along c Follow split.dir) dir names
  pub few : length seen.rest ≤ 5

-- The change was made, on the last name in the directory found.
pub record ChangesThere (c : CallInHistory) (rule : Rule) (change : Change) (text : List ℕ) : Type 0 where
  pub sees : SeesDirectory c text rule
  pub did : ChangesOnce (after_seen sees.seen) change sees.dir sees.split.name

-- Why it wasn't: the step's refusal, or a want met after the walk. Nothing was changed.
pub record ChangesNothing (c : CallInHistory) (rule : Rule) (change : Change) (text : List ℕ)
    (error : Errno) : Type 0 where
  pub sees : SeesDirectory c text rule
  pub why : ChangeRefused (after_seen sees.seen) change sees.dir sees.split.name error
      ⊎ (IsWant error × TellsWant error sees.seen.rest)
  pub leaves : AllLeaveEntries (after_seen sees.seen)

abbrev pub EntrySees : CallInHistory → Rule → Change → List ℕ → Reply → Type 0
EntrySees c rule change text done = ChangesThere c rule change text
EntrySees c rule change text (fault error) = ChangesNothing c rule change text error
EntrySees c rule change text other = ⊥

-- ---- read link

-- The walk found the object, the last link not followed. At most five steps are asked for after it.
pub record SeesLink (c : CallInHistory) (text : List ℕ) : Type 0 where
  pub is_path : IsPath text
  pub link : Handle
  pub names : List (List ℕ)
  pub seen : SeenTo (along c NoFollow (reading_of text)) link names
  pub few : length seen.rest ≤ 5

-- its text is the one that was there as it was read
pub record ReadsThere (c : CallInHistory) (text told : List ℕ) : Type 0 where
  pub sees : SeesLink c text
  pub did : ReadsText (after_seen sees.seen) sees.link told
  pub leaves : AllLeaveEntries (after_seen sees.seen)

pub record ReadsNothing (c : CallInHistory) (text : List ℕ) (error : Errno) : Type 0 where
  pub sees : SeesLink c text
  pub why : ReadRefused (after_seen sees.seen) sees.link error ⊎ (IsWant error × TellsWant error sees.seen.rest)
  pub leaves : AllLeaveEntries (after_seen sees.seen)

abbrev pub LinkSees : CallInHistory → List ℕ → Reply → Type 0
LinkSees c text (link_text told) = ReadsThere c text told
LinkSees c text (fault error) = ReadsNothing c text error
LinkSees c text other = ⊥

-- ---- rename

-- The old path's walk found a directory; the new path's did after it, with the same flags, begun at any moment from the
-- first one's end to its own first event. At most five steps are asked for after both.
pub record SeesBoth (c : CallInHistory) (from to : Split) : Type 0 where
  pub old : Handle
  pub old_names : List (List ℕ)
  pub first : SeenTo (along c Follow from.dir) old old_names
  pub new : Handle
  pub new_names : List (List ℕ)
  pub second : SeenTo (on_path to.dir (after_seen first)) new new_names
  pub one_more : OneMoreHeld first
  pub two_more : OneMoreHeld second
  pub few : length second.rest ≤ 5

abbrev pub after_both : {c : CallInHistory} {from to : Split} → SeesBoth c from to → WalkInHistory
after_both both = after_seen both.second

pub record RenamesThere (c : CallInHistory) (old new : List ℕ) (mode : Mode) : Type 0 where
  pub from : Split
  pub to : Split
  pub old_entry : IsEntry old Drop from
  pub new_entry : IsEntry new Drop to
  pub both : SeesBoth c from to
  pub did : RenamesOnce (after_both both) (renaming_of from to mode) both.old both.new

-- Why it wasn't: the second walk's fault, after which only the old directory is closed; or what comes after both walks.
-- Nothing was changed.
pub data RenamesNothing (c : CallInHistory) (old new : List ℕ) (mode : Mode) (error : Errno) : Type 0 where
  second_fails : (from to : Split) → IsEntry old Drop from → IsEntry new Drop to
      → (dir : Handle) (names : List (List ℕ)) → (first : SeenTo (along c Follow from.dir) dir names)
      → (second : WalkedTo (on_path to.dir (after_seen first)) (failed error)) → length second.rest ≤ 1
      → OneMoreHeld first → AllLeaveEntries (after_walk second) → RenamesNothing c old new mode error
  rename_fails : (from to : Split) → IsEntry old Drop from → IsEntry new Drop to → (both : SeesBoth c from to)
      → RenameRefused (after_both both) (renaming_of from to mode) both.old both.new error
      → AllLeaveEntries (after_both both) → RenamesNothing c old new mode error

abbrev pub RenameSees : CallInHistory → List ℕ → List ℕ → Mode → Reply → Type 0
RenameSees c old new mode done = RenamesThere c old new mode
RenameSees c old new mode (fault error) = RenamesNothing c old new mode error
RenameSees c old new mode other = ⊥

-- ---- the bulk calls

-- The whole path led to an object, which is the reply if it is a directory. No entry was changed.
pub record SeesWhole (c : CallInHistory) (text : List ℕ) (handle : Handle) (names : List (List ℕ)) : Type 0 where
  pub is_path : IsPath text
  pub seen : SeenTo (along c Deepest (reading_of text)) handle names
  pub leaves : AllLeaveEntries (after_seen seen)

abbrev pub MakeAllSees : CallInHistory → List ℕ → Reply → Type 0
MakeAllSees c text (opened handle names) = SeesWhole c text handle names × (is_dir_kind handle.kind ≡ true)
MakeAllSees c text (fault error) = (error ≡ NotDir)
    × ((handle : Handle) × ((names : List (List ℕ))
    × (SeesWhole c text handle names × (is_dir_kind handle.kind ≡ false))))
MakeAllSees c text other = ⊥

-- The walk to the target's directory found it. Entries were taken away there, of the target alone.
pub record ClearsThere (c : CallInHistory) (text : List ℕ) : Type 0 where
  pub split : Split
  pub entry : IsEntry text Drop split
  pub dir : Handle
  pub names : List (List ℕ)
  pub seen : SeenTo (along c Follow split.dir) dir names
  pub entries : OnlyTakesAway (after_seen seen) dir.node split.name
  pub bounded : IsBounded seen.rest

-- so many, and the target at last; or the fault is the clearing's
abbrev pub RemoveAllSees : CallInHistory → List ℕ → Reply → Type 0
RemoveAllSees c text (count n) = (clears : ClearsThere c text)
    × ((n ≡ removals c.lines) × IsLastOnTarget (after_seen clears.seen) clears.dir.node clears.split.name)
RemoveAllSees c text (fault error) = (clears : ClearsThere c text)
    × TellsFault (after_seen clears.seen) clears.dir.node error
RemoveAllSees c text other = ⊥

-- ---- the whole

-- what the reply tells where a walk's last check was the kernel's
abbrev pub Sees : CallInHistory → Op → Reply → Type 0
Sees c (Resolve text) reply = ResolveSees c Follow text reply
Sees c (ResolveNoFollow text) reply = ResolveSees c NoFollow text reply
Sees c (ReadLink text) reply = LinkSees c text reply
Sees c (CreateFile text) reply = EntrySees c Refuse changes.MakeFile text reply
Sees c (CreateDir text) reply = EntrySees c Drop changes.MakeDir text reply
Sees c (CreateLink text target) reply = EntrySees c Refuse (changes.MakeLink target) text reply
Sees c (RemoveFile text) reply = EntrySees c Refuse changes.RemoveFile text reply
Sees c (RemoveDir text) reply = EntrySees c Drop changes.RemoveDir text reply
Sees c (Rename old new mode) reply = RenameSees c old new mode reply
Sees c (MkdirAll text) reply = MakeAllSees c text reply
Sees c (RemoveAll text) reply = RemoveAllSees c text reply
Sees c (Single step) reply = ⊥
Sees c (Release standing) reply = ⊥

-- What a call tells: which handles it leaves open; where nobody else acts in its window, all that a call by single
-- steps tells; and that it tells this anyhow, or what the kernel saw.
pub record TellsAsSeen (c : CallInHistory) (reply : Told) : Type 0 where
  pub handles : HandlesAfter c (reply_view reply)
  pub quiet : IsQuiet c → CallTells c reply
  pub how : CallTells c reply ⊎ Sees c c.op (reply_view reply)

-- So it is of each call in each legal history: where what it was told leads it to the reply.
abbrev pub KernelWalksTell : Type 0
KernelWalksTell = (c : CallInHistory) (reply : Told) → IsCallInHistory c → RepliesAsTold c (reply_view reply)
    → TellsAsSeen c reply
