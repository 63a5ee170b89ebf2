-- What each call tells, outright, in every legal history: of the walk with which it begins, whose end is the reply
-- to a resolve, and of a bulk call what it did. openat2(2); mkdir(2), unlink(2), rmdir(2).
use Rattle.std.specs.Prelude.{◌≡◌, ℕ, ◌⊎◌, List, [], true, reverse, Ok, Err}
use Rattle.path_text.specs.declared.errno.Errno.{Errno}
use Rattle.path_text.specs.declared.path.Rule.{Rule}
use Rattle.path_text.specs.declared.path.Rule.TheVariants.{Drop, Refuse}
use Rattle.path_text.specs.declared.path.Split.{Split}
use Rattle.path_text.specs.Reading.{Reading}
use Rattle.path_text.specs.Split.{split_of}
use Rattle.path_text.specs.Text.{reading_of}
use Rattle.walk_plan.specs.declared.goal.Goal.{Goal}
use Rattle.walk_plan.specs.declared.goal.Goal.TheVariants.{Follow, NoFollow, Deepest}
use Rattle.step_resolver.specs.Footprint.{IsEnd}
use Rattle.step_resolver.specs.Order.{Way}
use Rattle.step_resolver.specs.Order as walk
use Rattle.step_resolver.specs.TurnView.{standing_handle}
use Rattle.step_resolver.specs.View.{way_from}
use Rattle.bulk_ops.specs.MakeAllOrder as make
use Rattle.bulk_ops.specs.MakeAllTells.{MakeTells}
use Rattle.bulk_ops.specs.RemoveAllOrder as remove
use Rattle.bulk_ops.specs.RemoveAllTells.{Tells}
use Rattle.bulk_ops.specs.WalkFirst.{WalkedTo}
use Rattle.root_ops.specs.declared.op.Op.{Op}
use Rattle.root_ops.specs.declared.op.Op.TheVariants.{Resolve, ResolveNoFollow, ReadLink, CreateFile, CreateDir, CreateLink, RemoveFile, RemoveDir, Rename, MkdirAll, RemoveAll, Single, Release}
use Rattle.root_ops.specs.declared.reply.Reply.{Reply as Told}
use Rattle.root_ops.specs.declared.reply.Reply.TheVariants.{Opened, Count, Fault}
use Rattle.root_ops.specs.Acts.{ActTells}
use Rattle.root_ops.specs.BulkTells.{bulk_of}
use Rattle.root_ops.specs.CallHistory.{CallInHistory, end_of, IsCallInHistory, RepliesWith, HandlesAfter}
pub use Rattle.root_ops.specs.CallHistory.{IsPath, EndsAtOnce}
use Rattle.root_ops.specs.Order.{make_way}
use Rattle.root_ops.specs.Quiet.{IsQuiet, ClosesWhatIsOpen, OpComesTo, caller_of}
use Rattle.root_ops.specs.View.{reply_view}

-- ---- the walk with which a call begins

-- the directory part of an entry's path
abbrev pub IsDirectoryOf : List ℕ → Rule → Reading → Type 0
IsDirectoryOf text rule path = (split : Split) × ((split_of (reading_of text) rule ≡ Ok split) × (path ≡ split.dir))

-- it has a last name too
abbrev pub HasName : List ℕ → Rule → Type 0
HasName text rule = (split : Split) × (split_of (reading_of text) rule ≡ Ok split)

-- The operation begins with a walk after this, along this path: to the object, or to the directory of the entry.
abbrev pub WalksFirst : Op → Goal → Reading → Type 0
WalksFirst (Resolve text) goal path = IsPath text × ((goal ≡ Follow) × (path ≡ reading_of text))
WalksFirst (ResolveNoFollow text) goal path = IsPath text × ((goal ≡ NoFollow) × (path ≡ reading_of text))
WalksFirst (ReadLink text) goal path = IsPath text × ((goal ≡ NoFollow) × (path ≡ reading_of text))
WalksFirst (CreateFile text) goal path = IsPath text × ((goal ≡ Follow) × IsDirectoryOf text Refuse path)
WalksFirst (CreateDir text) goal path = IsPath text × ((goal ≡ Follow) × IsDirectoryOf text Drop path)
WalksFirst (CreateLink text target) goal path = IsPath text × ((goal ≡ Follow) × IsDirectoryOf text Refuse path)
WalksFirst (RemoveFile text) goal path = IsPath text × ((goal ≡ Follow) × IsDirectoryOf text Refuse path)
WalksFirst (RemoveDir text) goal path = IsPath text × ((goal ≡ Follow) × IsDirectoryOf text Drop path)
WalksFirst (Rename old new mode) goal path =
    IsPath old × ((goal ≡ Follow) × (IsDirectoryOf old Drop path × (IsPath new × HasName new Drop)))
WalksFirst (MkdirAll text) goal path = IsPath text × ((goal ≡ Deepest) × (path ≡ reading_of text))
WalksFirst (RemoveAll text) goal path = IsPath text × ((goal ≡ Follow) × IsDirectoryOf text Drop path)
WalksFirst (Single step) goal path = ⊥
WalksFirst (Release standing) goal path = ⊥

-- The call begins with a walk on this way along this path, which comes to an end by the first of the call's lines;
-- and the headline holds of it.
pub record BeginsWithWalk (c : CallInHistory) (way : Way) (path : Reading) : Type 0 where
  pub end : walk.Turn
  pub over : IsEnd end
  pub walked : WalkedTo (bulk_of c way path) end

-- ---- the bulk calls

-- a MkdirAll of this path that ends so: which entries it made, and why it failed
abbrev pub Makes : CallInHistory → Reading → make.MakeTurn → Type 0
Makes c path end = MakeTells (bulk_of c (make_way c.below) path) end

-- a RemoveAll of this path that ends so: which entries it took away, and why it failed
pub record Clears (c : CallInHistory) (path : Reading) (end : remove.Turn) : Type 0 where
  pub split : Split
  pub at : split_of path Drop ≡ Ok split
  pub tells : Tells (bulk_of c (way_from c.below.root Follow c.below.flags) split.dir) split.name end

-- or the text has no last name
pub record HasNoName (c : CallInHistory) (text : List ℕ) (error : Errno) : Type 0 where
  pub why : split_of (reading_of text) Drop ≡ Err error
  pub no_step : c.lines ≡ []

-- what the reply to a MkdirAll tells; other replies don't come
abbrev pub MakeAllTells : CallInHistory → List ℕ → Told → Type 0
MakeAllTells c text (Opened standing) =
    IsPath text × Makes c (reading_of text) (make.made (standing_handle standing) (reverse standing.names))
MakeAllTells c text (Fault error) = EndsAtOnce c text error ⊎ Makes c (reading_of text) (make.failed error)
MakeAllTells c text other = ⊥

-- the same of a RemoveAll
abbrev pub RemoveAllTells : CallInHistory → List ℕ → Told → Type 0
RemoveAllTells c text (Count n) = IsPath text × Clears c (reading_of text) (remove.removed n)
RemoveAllTells c text (Fault error) =
    EndsAtOnce c text error ⊎ (HasNoName c text error ⊎ Clears c (reading_of text) (remove.failed error))
RemoveAllTells c text other = ⊥

abbrev pub BulkTells : CallInHistory → Op → Told → Type 0
BulkTells c (MkdirAll text) reply = MakeAllTells c text reply
BulkTells c (RemoveAll text) reply = RemoveAllTells c text reply
BulkTells c other reply = Unit {0}

-- ---- a resolve

-- the walk with which the call begins comes to this end
abbrev pub WalksTo : CallInHistory → Way → Reading → walk.Turn → Type 0
WalksTo c way path end = WalkedTo (bulk_of c way path) end

-- What was opened is what the walk found, at the names that are told; and a fault is the walk's, or ends the call at
-- once. Other replies don't come.
abbrev pub WalkIsReply : CallInHistory → Goal → List ℕ → Told → Type 0
WalkIsReply c goal text (Opened standing) = IsPath text
    × WalksTo c (way_from c.below.root goal c.below.flags) (reading_of text)
    (walk.found (standing_handle standing) (reverse standing.names))
WalkIsReply c goal text (Fault error) = EndsAtOnce c text error
    ⊎ WalksTo c (way_from c.below.root goal c.below.flags) (reading_of text) (walk.failed error)
WalkIsReply c goal text other = ⊥

abbrev pub ResolveTells : CallInHistory → Op → Told → Type 0
ResolveTells c (Resolve text) reply = WalkIsReply c Follow text reply
ResolveTells c (ResolveNoFollow text) reply = WalkIsReply c NoFollow text reply
ResolveTells c other reply = Unit {0}

-- ---- the whole

-- What a call tells that replies so: which handles it leaves open; where nobody else acts in its window, that its
-- reply and the nodes after it are those of the operation done whole; of the walk with which it begins the headline;
-- that this walk's end is the reply to a resolve; of the step after the walks which own event it is, on what they
-- found, and why it was refused; and of a bulk call what it made or took away, and why it failed.
pub record CallTells (c : CallInHistory) (reply : Told) : Type 0 where
  pub handles : HandlesAfter c (reply_view reply)
  pub quiet : IsQuiet c → ClosesWhatIsOpen c
      → OpComesTo (caller_of c) (end_of c) c.room c.lines c.op (reply_view reply)
  pub walked : (goal : Goal) (path : Reading) → WalksFirst c.op goal path → c.room ≡ true
      → BeginsWithWalk c (way_from c.below.root goal c.below.flags) path
  pub resolved : ResolveTells c c.op reply
  pub acts : ActTells c c.op (reply_view reply)
  pub bulk : BulkTells c c.op reply

-- So it is of each call in each legal history.
abbrev pub EachCallTells : Type 0
EachCallTells = (c : CallInHistory) (reply : Told) → IsCallInHistory c → RepliesWith c (reply_view reply)
    → CallTells c reply
