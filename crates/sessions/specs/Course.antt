-- A service from its opening to its closing, and what its sessions' calls tell.
use Rattle.std.specs.Prelude.{◌≡◌, ℕ, List, [], ◌∷◌, Ok, Some, slice_get}
use Rattle.tree_model.specs.declared.answer.Event.{Event}
use Rattle.tree_model.specs.State.{State, TOP}
use Rattle.tree_model.specs.Steps.{directory_at}
use Rattle.tree_model.specs.Trees.{IsState}
use Rattle.root_ops.specs.declared.op.Request.{Request}
use Rattle.root_ops.specs.declared.reply.Reply.{Reply as Told}
use Rattle.race_core.specs.OwnHistory.{NoneCloses, IsHistory}
use Rattle.sessions.specs.Call.{root_of, Called}
use Rattle.sessions.specs.Close.{StoppedView, IsClosed}
use Rattle.sessions.specs.EachCall.{CallTells}
use Rattle.sessions.specs.Open.{IsOpened}
use Rattle.sessions.specs.Service.{ServiceView}
use Rattle.sessions.specs.Session.{SessionView}

-- one call of a session: what was asked, the session after it, and the reply
pub record OneCall : Type 0 where
  pub request : Request
  pub after : SessionView
  pub reply : Told

-- these calls, one after another, lead from what the session was to what it is
abbrev pub CallsLead : SessionView → List OneCall → SessionView → Type 0
CallsLead session [] last = last ≡ session
CallsLead session (call ∷ calls) last =
    Called session call.request call.after call.reply × CallsLead call.after calls last

-- A service's course, by the contracts of its calls. `open`: it was opened over a tree with these roots. `stop`: the
-- opening stays the same. `close`: it closed with this history.
pub record Course (s : State) (roots : List (List (List ℕ))) (opening : State) (events : List Event) : Type 0 where
  pub tag : ℕ
  pub lines : ℕ
  pub service : ServiceView
  pub first : List SessionView
  pub opened : IsOpened s roots tag lines service first
  pub stopped : StoppedView
  pub same_opening : stopped.opening ≡ service.opening
  pub last : List SessionView
  pub tree : State
  pub closed : IsClosed stopped last tree events opening

-- the session that `open` gave for the root at a place: its handle is on the directory at the root's names in the
-- given tree, and the closed history has that root
pub record IsRooted (s opening : State) (events : List Event) (names : List (List ℕ))
    (first : SessionView) : Type 0 where
  pub node : ℕ
  pub directory : directory_at s.nodes TOP names ≡ Ok node
  pub history : IsHistory opening events (root_of first) node

-- Over a tree, each session of a closed service has its root in the closed history.
abbrev pub RootsStand : Type 0
RootsStand = (s opening : State) (roots : List (List (List ℕ))) (events : List Event)
    (course : Course s roots opening events) (i : ℕ) (names : List (List ℕ)) (first : SessionView)
    → IsState s → slice_get roots i ≡ Some names → slice_get course.first i ≡ Some first
    → IsRooted s opening events names first

-- One call among those of a session, from the service's opening to its closing: whatever that session had called
-- before and calls later, what the reply tells holds in the closed history. It had not released its own root before.
abbrev pub ServicesTell : Type 0
ServicesTell = (s opening : State) (roots : List (List (List ℕ))) (events : List Event)
    (course : Course s roots opening events) (i p : ℕ) (names : List (List ℕ))
    (first before after last : SessionView) (earlier later : List OneCall) (request : Request) (reply : Told)
    → IsState s → slice_get roots i ≡ Some names → slice_get course.first i ≡ Some first
    → slice_get course.last p ≡ Some last
    → CallsLead first earlier before → (called : Called before request after reply) → CallsLead after later last
    → NoneCloses before.root before.log
    → (node : ℕ) × ((directory_at s.nodes TOP names ≡ Ok node)
    × CallTells opening events before request node called.made.room called.made.lines reply)
