-- A whole call whose path the kernel walks, joined to the tree: the system calls that kernel_calls asks for make what
-- kernel_walks says of the operation. mkdir(2), mknod(2), symlink(2), unlink(2), rmdir(2), renameat2(2).
use Rattle.std.specs.Prelude.{◌≡◌, ℕ, List, [], ◌++◌, Bool, true, false, not, if◌then◌else◌, Option, Some, None}
use Rattle.tree_model.specs.declared.step.Mode.{Mode}
use Rattle.tree_model.specs.declared.step.StepOf.TheVariants as steps
use Rattle.tree_model.specs.StepWith.{StepWith}
use Rattle.path_text.specs.Text.{reading_of}
use Rattle.path_text.specs.declared.errno.Errno.TheVariants.{NotFound}
use Rattle.system_calls.specs.Errors.{ENOENT}
use Rattle.system_calls.specs.OpenFlags.{IsOfMachine}
use Rattle.dialogue.specs.Dialogue.{Exchange, Whole, without_signals}
use Rattle.find_proc.specs.declared.asks.Known.{Known}
use Rattle.linux_steps.specs.Changes.{change_ended}
use Rattle.walk_plan.specs.declared.goal.Goal.TheVariants.{Follow, NoFollow}
use Rattle.step_resolver.specs.Order.{Handle, Line}
use Rattle.root_ops.specs.declared.aim.Change.{Change}
use Rattle.root_ops.specs.declared.aim.Change.TheVariants as changes
use Rattle.root_ops.specs.declared.below.Below.{Below}
use Rattle.root_ops.specs.declared.op.Op.{Op}
use Rattle.root_ops.specs.declared.op.Op.TheVariants.{Rename}
use Rattle.root_ops.specs.declared.reply.Reply.{Reply}
use Rattle.root_ops.specs.declared.reply.Reply.TheVariants.{Done, Fault}
use Rattle.root_ops.specs.Acts.{along}
use Rattle.root_ops.specs.CallHistory.{CallInHistory, IsCallInHistory}
use Rattle.root_ops.specs.EachCall.{CallTells}
use Rattle.root_ops.specs.Order.{change_step, renaming_of}
use Rattle.kernel_calls.specs.Calls.{Ended, change_entry, rename, resolve}
use Rattle.kernel_calls.specs.Entry.{EntryAt, IsDivided}
use Rattle.kernel_calls.specs.Flags.{BENEATH, MAKE_DIR, MAKE_FILE, MAKE_LINK, NO_LINKS, REMOVE_DIR, REMOVE_FILE, has}
use Rattle.kernel_calls.specs.Look.{Came}
use Rattle.kernel_calls.specs.Path.{At, text_in}
use Rattle.kernel_calls.specs.Promises.{IsReply}
use Rattle.kernel_calls.specs.declared.change.Wanted.{Wanted}
use Rattle.kernel_calls.specs.declared.look.Outcome.{Outcome}
use Rattle.kernel_calls.specs.declared.look.Outcome.TheVariants.{Value, Fails, FailsAt, Steps}
use Rattle.kernel_walks.specs.Behind.{IsChangeOf}
use Rattle.kernel_walks.specs.SeenBelow.{SeenBelow}
use Rattle.kernel_walks.specs.Split.{rule_of}
use Rattle.kernel_walks.specs.Tells.{TellsAsSeen}
use Rattle.calls_by_system_calls.specs.SystemCalls.{Descriptors, InRoot, IsNewFile, StandFor, closed, rename_flags, reply_of, resolves}

-- ---- what is asked for

-- the step of inroot.h that makes this change; a file that the caller opens is a new one
abbrev pub Asks : Change → ℕ → Wanted → List ℕ → Type 0
Asks changes.MakeDir step how text = step ≡ MAKE_DIR
Asks changes.MakeFile step how text = (step ≡ MAKE_FILE) × (how.opens ≡ true → IsNewFile how.how)
Asks (changes.MakeLink target) step how text = (step ≡ MAKE_LINK) × (text ≡ target)
Asks changes.RemoveFile step how text = step ≡ REMOVE_FILE
Asks changes.RemoveDir step how text = step ≡ REMOVE_DIR

-- it is walked below the call's root, by the call's flags
pub record IsBelowRoot (below : Below) (d : Descriptors) (at : At) : Type 0 where
  pub root : at.root ≡ d.root
  pub beneath : has at.flags BENEATH ≡ below.flags.beneath
  pub no_links : has at.flags NO_LINKS ≡ below.flags.no_links

-- an entry below that root, whose path is divided as `named` of kernel_calls says
pub record EntryBelow (below : Below) (d : Descriptors) (takes_slash : Bool) : Type 0 where
  pub at : At
  pub is_below : IsBelowRoot below d at
  pub entry : EntryAt
  pub divided : IsDivided (text_in at.slashed) takes_slash entry

-- on a machine whose numbers the descriptors' call has
abbrev pub IsOn : Descriptors → Known → Type 0
IsOn d known = IsOfMachine known.machine × (d.machine ≡ known.machine)

-- A call of the library that makes this operation's change of an entry: what it is asked for, all its exchanges, and
-- its end. It gives no descriptor's object another name, and gives nothing that it made but a new file.
pub record EntryCall (below : Below) (d : Descriptors) (op : Op) : Type 0 where
  pub takes_slash : Bool
  pub place : EntryBelow below d takes_slash
  pub change : Change
  pub is_op : IsChangeOf op (rule_of takes_slash) change (text_in place.at.slashed)
  pub how : Wanted
  pub step : ℕ
  pub text : List ℕ
  pub asks : Asks change step how text
  pub unlinked : how.linked ≡ false
  pub gives : how.gives ≡ false
  pub known : Known
  pub is_on : IsOn d known
  pub read : List ℕ
  pub is_last : Bool
  pub exchanges : List Exchange
  pub end : Ended
  pub whole : Whole (change_entry known place.at place.entry how step text read is_last) exchanges end

-- A rename whose paths end in no slash.
pub record RenameCall (below : Below) (d : Descriptors) (op : Op) : Type 0 where
  pub old : EntryBelow below d true
  pub new : EntryBelow below d true
  pub mode : Mode
  pub is_op : op ≡ Rename (text_in old.at.slashed) (text_in new.at.slashed) mode
  pub no_slash : (renaming_of old.divided.split new.divided.split mode).slash ≡ false
  pub how : Wanted
  pub flags : how.how ≡ rename_flags mode
  pub unlinked : how.linked ≡ false
  pub gives : how.gives ≡ false
  pub known : Known
  pub is_on : IsOn d known
  pub is_last : Bool
  pub exchanges : List Exchange
  pub end : Ended
  pub whole : Whole (rename known old.at old.entry new.at new.entry how is_last) exchanges end

-- ---- what it comes to

-- It is done; or the error is the model's for that step, and want of memory where the model has no word for it; or a
-- look-up failed. Of a call that single steps make nothing is said.
abbrev pub RepliesBy : StepWith ℕ → Outcome → Reply → Type 0
RepliesBy step (Value value) reply = reply ≡ Done
RepliesBy step (FailsAt error blamed) reply = reply ≡ reply_of (change_ended step false error)
RepliesBy step (Fails error blamed) reply = reply ≡ Fault NotFound
RepliesBy step Steps reply = ⊥

-- the error of a look-up that failed
abbrev pub FailsSo : Outcome → Type 0
FailsSo (Fails error blamed) = error ≡ ENOENT
FailsSo other = Unit {0}

-- these lines; or if the call's first entry is in the root itself, with those of another handle on it around them
abbrev pub AreWithin : Below → Descriptors → Option (List ℕ) → List Line → List Line → Type 0
AreWithin below d (Some slashed) inner lines = lines ≡ inner
AreWithin below d None inner lines = (root : InRoot below (λ h. inner) lines) × (d.handle d.root ≡ root.other.number)

-- the call's own lines are those of its exchanges, signals left out, and of what is closed behind its end
pub record HasLines (c : CallInHistory) (d : Descriptors) (above : Option (List ℕ)) (exchanges : List Exchange)
    (end : Ended) : Type 0 where
  pub lines : List Line
  pub stand : StandFor c.below d (without_signals exchanges) lines
  pub all : AreWithin c.below d above (lines ++ closed d end.closes) c.lines

-- In each legal history with these lines the call tells what kernel_walks says. If it fails for a look-up, a name of a
-- directory's path is missing.
abbrev pub TellsSo : (c : CallInHistory) → Descriptors → Option (List ℕ) → StepWith ℕ → List Exchange → Ended → Type 0
TellsSo c d above step exchanges end = (reply : Reply) → HasLines c d above exchanges end
    → RepliesBy step end.outcome reply → c.room ≡ true → IsCallInHistory c → FailsSo end.outcome × TellsAsSeen c reply

abbrev pub EntriesAreChangedBySystemCalls : Type 0
EntriesAreChangedBySystemCalls = (c : CallInHistory) (d : Descriptors) (call : EntryCall c.below d c.op)
    → TellsSo c d call.place.entry.above (change_step call.change 0 []) call.exchanges call.end

abbrev pub EntriesAreRenamedBySystemCalls : Type 0
EntriesAreRenamedBySystemCalls = (c : CallInHistory) (d : Descriptors) (call : RenameCall c.below d c.op)
    → TellsSo c d call.old.entry.above (steps.Rename 0 [] 0 [] call.mode) call.exchanges call.end

-- ---- what a path means

-- A call that opens what a path means: through a link at its end or not; a directory alone; with its kind.
pub record PathCall (below : Below) (d : Descriptors) (op : Op) : Type 0 where
  pub at : At
  pub is_below : IsBelowRoot below d at
  pub follows : Bool
  pub directory : Bool
  pub asks : Bool
  pub is_op : op ≡ resolves (not follows) (text_in at.slashed)
  pub known : Known
  pub is_on : IsOn d known
  pub exchanges : List Exchange
  pub end : Came Outcome
  pub whole : Whole (resolve known at follows directory asks) exchanges end

-- The descriptor in the reply is a handle on what was reached by the path's parts, and stood below the root at the
-- kernel's check.
pub record OpensSeen (c : CallInHistory) (d : Descriptors) (call : PathCall c.below d c.op) (value : ℕ) : Type 0 where
  pub fd : ℕ
  pub is_reply : IsReply call.asks fd value
  pub object : Handle
  pub is : d.handle fd ≡ object.number
  pub names : List (List ℕ)
  pub seen : SeenBelow (along c (if call.follows then Follow else NoFollow) (reading_of (text_in call.at.slashed)))
      object names

-- Or it fails for a name that is missing. Of a call that single steps make nothing is said.
abbrev pub PathTells : (c : CallInHistory) (d : Descriptors) → PathCall c.below d c.op → Outcome → Type 0
PathTells c d call (Value value) = OpensSeen c d call value
PathTells c d call (Fails error blamed) = c.room ≡ true → (error ≡ ENOENT) × CallTells c (Fault NotFound)
PathTells c d call other = Unit {0}

abbrev pub PathsAreOpenedBySystemCalls : Type 0
PathsAreOpenedBySystemCalls = (c : CallInHistory) (d : Descriptors) (call : PathCall c.below d c.op)
    → StandFor c.below d (without_signals call.exchanges) c.lines → IsCallInHistory c
    → PathTells c d call call.end.value
