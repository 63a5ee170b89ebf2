-- How many free handles are enough for a call, whoever acts meanwhile: the statement of the law. openat2(2), EMFILE.
use Rattle.std.specs.Prelude.{◌≡◌, ◌⊎◌, ◌+◌, ◌≤◌, Bool, true, false, length}
use Rattle.path_text.specs.declared.errno.Errno.TheVariants.{TooMany}
use Rattle.tree_model.specs.declared.tree.TheConstants.{HANDLES_MAX, NUMBERS_MAX}
use Rattle.tree_model.specs.Steps.{held_count}
use Rattle.root_ops.specs.declared.op.Op.{Op}
use Rattle.root_ops.specs.declared.op.Op.TheVariants.{Resolve, ResolveNoFollow, ReadLink, CreateFile, CreateDir, CreateLink, RemoveFile, RemoveDir, Rename, MkdirAll, RemoveAll, Single, Release}
use Rattle.root_ops.specs.declared.reply.Reply.{Reply as Told}
use Rattle.root_ops.specs.declared.reply.Reply.TheVariants.{Fault}
use Rattle.root_ops.specs.CallHistory.{CallInHistory, IsCallInHistory, RepliesWith, actor_of, begin_of, end_of}
use Rattle.root_ops.specs.View.{reply_view}

-- The operations that walk, but a RemoveAll: this one holds a directory for each level below its target.
abbrev pub holds_few : Op → Bool
holds_few (Resolve path) = true
holds_few (ResolveNoFollow path) = true
holds_few (ReadLink path) = true
holds_few (CreateFile path) = true
holds_few (CreateDir path) = true
holds_few (CreateLink path text) = true
holds_few (RemoveFile path) = true
holds_few (RemoveDir path) = true
holds_few (Rename old new mode) = true
holds_few (MkdirAll path) = true
holds_few (RemoveAll path) = false
holds_few (Single step) = false
holds_few (Release standing) = false

-- the actor can open four handles more as the window begins
abbrev pub FourAreFree : CallInHistory → Type 0
FourAreFree c = held_count (begin_of c) (actor_of c) + 4 ≤ HANDLES_MAX

-- the numbers of handles are used up, or those of nodes, as it ends
abbrev pub NumbersAreUsedUp : CallInHistory → Type 0
NumbersAreUsedUp c = (NUMBERS_MAX ≤ length (end_of c).handles) ⊎ (NUMBERS_MAX ≤ length (end_of c).nodes)

-- With four free handles such a call ends in EMFILE only where numbers are used up, in every legal history.
abbrev pub FourAreEnough : Type 0
FourAreEnough = (c : CallInHistory) (reply : Told) → IsCallInHistory c → RepliesWith c (reply_view reply)
    → holds_few c.op ≡ true → FourAreFree c → reply ≡ Fault TooMany
    → NumbersAreUsedUp c
