-- A call of a session: what it is answered at each step, and what it adds to the session's log.
use Rattle.std.specs.Prelude.{◌≡◌, ℕ, ◌⊎◌, ◌==◌, ◌&&◌, ◌||◌, ◌++◌, List, [], ◌∷◌, Bool, true, false, nat_lt, Option, Some, None}
use Rattle.path_text.specs.declared.errno.Errno.{Errno}
use Rattle.path_text.specs.declared.errno.Errno.TheVariants.{BadHandle, BookFull, Invalid}
use Rattle.tree_model.specs.declared.answer.Answer.{Answer}
use Rattle.tree_model.specs.declared.answer.Answer.TheVariants.{Refused}
use Rattle.tree_model.specs.declared.answer.Event.{Event}
use Rattle.tree_model.specs.StepWith.{StepWith}
use Rattle.handles.specs.Objects.{StandingObject}
use Rattle.step_resolver.specs.declared.walk.Root.{Root}
use Rattle.step_resolver.specs.Order.{Line, events_of}
use Rattle.root_ops.specs.declared.below.Below.{Below}
use Rattle.root_ops.specs.declared.op.Op.{Op}
use Rattle.root_ops.specs.declared.op.Op.TheVariants.{Release}
use Rattle.root_ops.specs.declared.op.Request.{Request}
use Rattle.root_ops.specs.declared.reply.Reply.{Reply as Told}
use Rattle.root_ops.specs.declared.reply.Reply.TheVariants.{Fault, Kept}
use Rattle.root_ops.specs.Order.{Reply, done, kept, fault, Doing, CallTurn, more, ends, same_owner, due, starts, IsUnmade, LeadsTo}
use Rattle.root_ops.specs.TurnView.{below_of}
use Rattle.root_ops.specs.View.{reply_view, IsOwned}
use Rattle.sessions.specs.Session.{SessionView, leaves_open}
use Rattle.sessions.specs.Service.{ServiceView}

-- the session with these events more in its log
abbrev pub logs : SessionView → List Event → SessionView
logs session events =
    record { owner = session.owner; root = session.root; log = session.log ++ events; marked = session.marked }

abbrev pub actor_of : SessionView → ℕ
actor_of session = session.owner.actor

-- the session with one step of its own more in its log
abbrev pub logs_step : SessionView → StepWith ℕ → Answer → SessionView
logs_step session step answer = logs session (record { actor = actor_of session; step = step; answer = answer } ∷ [])

abbrev pub root_of : SessionView → Root
root_of session = record { owner = session.owner; handle = session.root }

-- the due step was made and logged; or it wasn't made, which is its refusal
abbrev pub IsAnswer : Below → Doing → SessionView → SessionView → Answer → Type 0
IsAnswer below doing old new answer =
    (new ≡ logs_step old (due below doing) answer)
    ⊎ ((error : Errno) × (IsUnmade below doing error × ((answer ≡ Refused error) × (new ≡ old))))

-- lines lead from one turn to the other, and their events were logged
pub record Leads (below : Below) (old : SessionView) (from : CallTurn) (new : SessionView)
    (to : CallTurn) : Type 0 where
  pub lines : List Line
  pub leads : LeadsTo below from lines to
  pub logged : new ≡ logs old (events_of (actor_of old) lines)

-- from the first turn of an operation, with memory or without
pub record LeadsFirst (below : Below) (op : Op) (old new : SessionView) (to : CallTurn) : Type 0 where
  pub room : Bool
  pub led : Leads below old (starts below room op) new to

abbrev pub is_book_full : Told → Bool
is_book_full (Fault BookFull) = true
is_book_full reply = false

-- the session is marked where the reply is that the book was full
abbrev pub marks : SessionView → Told → SessionView
marks session reply = record {
  owner = session.owner;
  root = session.root;
  log = session.log;
  marked = session.marked || is_book_full reply;
}

-- lines lead, by the order of the operation's steps, from its first turn, with memory or without, to the reply;
-- their events were logged, and what was opened is the session's own
pub record Made (before : SessionView) (request : Request) (after : SessionView) (reply : Told) : Type 0 where
  pub room : Bool
  pub lines : List Line
  pub leads : LeadsTo (below_of (root_of before) request.flags)
      (starts (below_of (root_of before) request.flags) room request.op) lines (ends (reply_view reply))
  pub logged : after ≡ logs before (events_of (actor_of before) lines)
  pub owned : IsOwned before.owner reply

-- What the reply to a Release tells; other replies don't come. Another owner's alone is handed back. It fails only
-- where by the session's own log the handle isn't open (close(2), EBADF).
abbrev pub ReleaseTells : SessionView → StandingObject → Reply → Type 0
ReleaseTells session standing (kept other) =
    (same_owner standing.owner session.owner ≡ false) × (other ≡ standing)
ReleaseTells session standing done = Unit {0}
ReleaseTells session standing (fault error) =
    (error ≡ BadHandle) × (leaves_open session.root session.log standing.handle ≡ false)
ReleaseTells session standing other = ⊥

-- the turn is the end of a Release, which so replies
abbrev pub EndsRelease : SessionView → StandingObject → CallTurn → Type 0
EndsRelease session standing (ends reply) = ReleaseTells session standing reply
EndsRelease session standing (more doing) = ⊥

-- A call: its events are what the session's log has more, and the session is marked where the book was full.
pub record Called (before : SessionView) (request : Request) (after : SessionView) (reply : Told) : Type 0 where
  pub between : SessionView
  pub made : Made before request between reply
  pub marked : after ≡ marks between reply
  pub released : (standing : StandingObject) → request.op ≡ Release standing
      → ReleaseTells before standing (reply_view reply)

-- the handle that is to be released
abbrev pub released_by : Op → Option ℕ
released_by (Release standing) = Some standing.handle
released_by op = None

-- the session has the service's tag and one of its numbers
abbrev pub is_of : ServiceView → SessionView → Bool
is_of service session = (session.owner.tag == service.tag) && nat_lt (actor_of session) service.count

-- what a session that isn't the service's is told
abbrev pub turned_away : Op → Told
turned_away (Release standing) = Kept standing
turned_away op = Fault Invalid
