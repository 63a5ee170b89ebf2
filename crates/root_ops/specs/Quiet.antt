-- A call in a history, and what comes of it where nobody else acts meanwhile.
use Rattle.std.specs.Prelude.{◌≡◌, ◌⊎◌, ℕ, ◌≤◌, List, [], ◌∷◌, length, Bool, true, false, Some, None, slice_get}
use Rattle.std.specs.Option.{option_map}
use Rattle.path_text.specs.declared.errno.Errno.{Errno}
use Rattle.path_text.specs.declared.errno.Errno.TheVariants.{BadHandle, NoMemory, Busy, TooMany}
use Rattle.tree_model.specs.declared.answer.Answer.TheVariants.{Refused}
use Rattle.tree_model.specs.declared.answer.Event.{Event}
use Rattle.tree_model.specs.declared.inode.Inode.{Inode}
use Rattle.tree_model.specs.State.{State, Stands, object_at}
use Rattle.tree_model.specs.Steps.{held, kind_of}
use Rattle.handles.specs.Objects.{StandingObject}
use Rattle.step_resolver.specs.Footprint.{is_want}
use Rattle.bulk_ops.specs.declared.remove_all.clearing.TheConstants.{CLEARING_STEPS_MAX}
use Rattle.bulk_ops.specs.MakeAllQuiet.{IsPart}
use Rattle.step_resolver.specs.Order.{Handle, Line, answered, no_room, not_made}
use Rattle.root_ops.specs.declared.op.Op.{Op}
use Rattle.root_ops.specs.declared.op.Op.TheVariants.{MkdirAll, RemoveAll, Release}
use Rattle.root_ops.specs.CallHistory.{CallInHistory, actor_of, begin_of, end_of, IsCallInHistory, RepliesWith}
use Rattle.root_ops.specs.Meaning.{Caller, Told, is_open, has_text, is_done, counts, answers, keeps, fails, Whole, op_means}
use Rattle.root_ops.specs.Order.{Reply, opened, link_text, done, count, stepped, kept, fault}

-- ---- what comes of a call

-- The object x is open by a handle that wasn't open before, and stands under the root at these names, the innermost
-- first.
pub record IsOpened (c : Caller) (end : State) (x : ℕ) (handle : Handle) (names : List (List ℕ)) : Type 0 where
  pub node : handle.node ≡ x
  pub is_open : held end c.actor handle.number ≡ Some x
  pub fresh : held c.tree c.actor handle.number ≡ None
  pub kind : option_map kind_of (object_at end.nodes x) ≡ Some handle.kind
  pub stands : Stands end.nodes c.root x names

-- the reply is the one that is meant
abbrev pub IsReply : Caller → State → Told → Reply → Type 0
IsReply c end (is_open x) (opened handle names) = IsOpened c end x handle names
IsReply c end (has_text text) (link_text told) = told ≡ text
IsReply c end is_done done = Unit {0}
IsReply c end (counts n) (count told) = told ≡ n
IsReply c end (answers answer) (stepped told) = told ≡ answer
IsReply c end (keeps standing) (kept told) = told ≡ standing
IsReply c end (fails error) (fault told) = told ≡ error
IsReply c end _ _ = ⊥

-- so are the nodes
pub record IsDone (c : Caller) (end : State) (whole : Whole) (reply : Reply) : Type 0 where
  pub is_reply : IsReply c end whole.reply reply
  pub nodes : end.nodes ≡ whole.nodes

-- a step wasn't made for that want, what its answer brings found no memory, or it was refused for want of handles
abbrev pub Meets : Errno → Line → Type 0
Meets error (answered step answer) = (error ≡ TooMany) × (answer ≡ Refused TooMany)
Meets error (no_room step answer) = (error ≡ NoMemory) ⊎ ((error ≡ TooMany) × (answer ≡ Refused TooMany))
Meets error (not_made cause) = error ≡ cause

abbrev pub MetWant : List Line → Errno → Type 0
MetWant [] error = ⊥
MetWant (line ∷ lines) error = Meets error line ⊎ MetWant lines error

-- a call met that want: at one of its lines, or there was no memory for its first turn
abbrev pub MetBy : Bool → List Line → Errno → Type 0
MetBy room lines error = MetWant lines error ⊎ ((room ≡ false) × (error ≡ NoMemory))

-- memory, room in the book or handles ran short, which is the reply, and no node was changed
pub record RanShort (c : Caller) (end : State) (room : Bool) (lines : List Line) (reply : Reply) : Type 0 where
  pub error : Errno
  pub is_reply : reply ≡ fault error
  pub want : is_want error ≡ true
  pub met : MetBy room lines error
  pub nodes : end.nodes ≡ c.tree.nodes

-- A MkdirAll that ran short has made a part of what is meant, from its first directory on.
pub record MadePart (c : Caller) (end : State) (room : Bool) (lines : List Line) (whole : Whole)
    (reply : Reply) : Type 0 where
  pub error : Errno
  pub is_reply : reply ≡ fault error
  pub want : is_want error ≡ true
  pub met : MetBy room lines error
  pub part : IsPart c.tree.nodes end.nodes whole.nodes

-- each node is as it was before, or as it is meant to be
abbrev pub IsAmong : List Inode → List Inode → List Inode → Type 0
IsAmong before after whole =
    (x : ℕ) → (slice_get after x ≡ slice_get before x) ⊎ (slice_get after x ≡ slice_get whole x)

-- A RemoveAll that ran short, of steps too, has removed a part of what is meant.
pub record ClearedPart (c : Caller) (end : State) (room : Bool) (lines : List Line) (whole : Whole)
    (reply : Reply) : Type 0 where
  pub error : Errno
  pub is_reply : reply ≡ fault error
  pub short : ((is_want error ≡ true) × MetBy room lines error)
      ⊎ ((error ≡ Busy) × (CLEARING_STEPS_MAX ≤ length lines))
  pub part : IsAmong c.tree.nodes end.nodes whole.nodes

abbrev pub ComesTo : Caller → State → Bool → List Line → Whole → Reply → Type 0
ComesTo c end room lines whole reply = IsDone c end whole reply ⊎ RanShort c end room lines reply

-- what an operation comes to; a bulk call that ran short may have changed a part of what is meant
abbrev pub OpComesTo : Caller → State → Bool → List Line → Op → Reply → Type 0
OpComesTo c end room lines (MkdirAll text) reply =
    IsDone c end (op_means c (MkdirAll text)) reply ⊎ MadePart c end room lines (op_means c (MkdirAll text)) reply
OpComesTo c end room lines (RemoveAll text) reply =
    IsDone c end (op_means c (RemoveAll text)) reply ⊎ ClearedPart c end room lines (op_means c (RemoveAll text)) reply
OpComesTo c end room lines op reply = ComesTo c end room lines (op_means c op) reply

-- ---- a call in a history

-- no event of another stands in the window
abbrev pub IsQuiet : CallInHistory → Type 0
IsQuiet c = (t : ℕ) (event : Event) → slice_get c.window t ≡ Some event → event.actor ≡ actor_of c

-- The Close of what is to be released is left out only where that isn't open, as by a book that makes no such Close.
abbrev pub ClosesWhatIsOpen : CallInHistory → Type 0
ClosesWhatIsOpen c = (standing : StandingObject) (others : List Line) → c.op ≡ Release standing
    → c.lines ≡ not_made BadHandle ∷ others
    → held (begin_of c) (actor_of c) standing.handle ≡ None

abbrev pub caller_of : CallInHistory → Caller
caller_of c = record { tree = begin_of c; actor = actor_of c; root = c.root; below = c.below }

-- Where nobody else acts in the window, the reply and the nodes at its end are those that the operation means in the
-- tree as the window begins, unless memory, room in the book or handles ran short.
abbrev pub QuietCallsMean : Type 0
QuietCallsMean = (c : CallInHistory) (reply : Reply) → IsCallInHistory c → RepliesWith c reply → IsQuiet c
    → ClosesWhatIsOpen c
    → OpComesTo (caller_of c) (end_of c) c.room c.lines c.op reply
