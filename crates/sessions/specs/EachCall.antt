-- One session's call, outright: what its reply tells in the history that a closed service gives.
use Rattle.std.specs.Prelude.{◌≡◌, ◌⊎◌, ℕ, List, ◌++◌, Bool, None}
use Rattle.tree_model.specs.declared.answer.Event.{Event}
use Rattle.tree_model.specs.State.{State}
use Rattle.tree_model.specs.Steps.{held}
use Rattle.handles.specs.Objects.{StandingObject}
use Rattle.step_resolver.specs.Order.{Line, events_of}
use Rattle.step_resolver.specs.WalkHistory.{own_events}
use Rattle.root_ops.specs.declared.op.Op.TheVariants.{Release}
use Rattle.root_ops.specs.declared.op.Request.{Request}
use Rattle.root_ops.specs.declared.reply.Reply.{Reply as Told}
use Rattle.root_ops.specs.CallHistory.{CallInHistory, actor_of, end_of, IsCallInHistory, RepliesWith}
use Rattle.root_ops.specs.EachCall.{CallTells as CallOfRootTells}
use Rattle.root_ops.specs.Quiet.{IsQuiet, OpComesTo, caller_of}
use Rattle.root_ops.specs.TurnView.{below_of}
use Rattle.root_ops.specs.View.{reply_view}
use Rattle.race_core.specs.OwnHistory.{NoneCloses, IsHistory, Around}
use Rattle.sessions.specs.Call.{root_of, Called}
use Rattle.sessions.specs.Session.{SessionView}

-- a window of the call in the history: it begins after all that the session had logged before, and has just the call's
-- own events of the session
pub record IsWindow (events : List Event) (session : SessionView) (lines : List Line)
    (before window rest : List Event) : Type 0 where
  pub whole : events ≡ before ++ (window ++ rest)
  pub own_before : own_events session.owner.actor before ≡ session.log
  pub own : own_events session.owner.actor window ≡ events_of session.owner.actor lines

-- the call with that window
abbrev pub call_in : State → SessionView → Request → ℕ → Bool → List Line → List Event → List Event → CallInHistory
call_in opening session request node room lines before window = record {
  opening = opening;
  before = before;
  window = window;
  below = below_of (root_of session) request.flags;
  root = node;
  room = room;
  op = request.op;
  lines = lines;
}

-- What is to be released is the root, or wasn't open yet at the opening of the history.
abbrev pub OpenedSince : CallInHistory → Type 0
OpenedSince c = (standing : StandingObject) → c.op ≡ Release standing
    → (standing.handle ≡ c.below.root.handle) ⊎ (held c.opening (actor_of c) standing.handle ≡ None)

-- What the call tells there: all that a call in a history tells; and where nobody else acts in its window, that its
-- reply and the nodes after it are those of the operation done whole, of a Release too.
pub record TellsIn (c : CallInHistory) (reply : Told) : Type 0 where
  pub is_call : IsCallInHistory c
  pub replies : RepliesWith c (reply_view reply)
  pub tells : CallOfRootTells c reply
  pub quiet : IsQuiet c → OpenedSince c
      → OpComesTo (caller_of c) (end_of c) c.room c.lines c.op (reply_view reply)

-- There is a window of the call, and so it tells in each.
pub record CallTells (opening : State) (events : List Event) (session : SessionView) (request : Request) (node : ℕ)
    (room : Bool) (lines : List Line) (reply : Told) : Type 0 where
  pub later : List Event
  pub stands : Around session.owner.actor events session.log (events_of session.owner.actor lines) later
  pub each : (before window rest : List Event) → IsWindow events session lines before window rest
      → TellsIn (call_in opening session request node room lines before window) reply

-- One session's call, outright. From open: the opening is a tree in which the root's handle is open and the
-- session's, on a directory. From call: what it logged and replied. From close: the history is legal, and the
-- session's log, which this call's is a part of, is its own events there.
abbrev pub EachCallTells : Type 0
EachCallTells = (opening : State) (events : List Event) (session after : SessionView) (request : Request)
    (reply : Told) (node : ℕ) (later : List Event)
    → IsHistory opening events (root_of session) node → NoneCloses session.root session.log
    → (called : Called session request after reply)
    → own_events session.owner.actor events ≡ after.log ++ later
    → CallTells opening events session request node called.made.room called.made.lines reply
