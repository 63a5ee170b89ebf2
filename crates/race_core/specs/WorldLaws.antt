-- What a report tells of the calls of each actor, and of the walks in them: statements of laws. A call's window runs
-- from its first own event to its last. The laws hold in each window of the report that has just the call's own events,
-- so in the narrowest too: what others did before the call began is no part of it.
use Rattle.std.specs.Prelude.{◌≡◌, ◌⊎◌, ℕ, List, [], ◌∷◌, ◌++◌, true, false, Some, reverse, slice_get}
use Rattle.path_text.specs.declared.errno.Errno.{Errno}
use Rattle.path_text.specs.declared.errno.Errno.TheVariants.{NoMemory, TooMany}
use Rattle.path_text.specs.Reading.{Reading}
use Rattle.path_text.specs.Text.{text_fault, reading_of}
use Rattle.tree_model.specs.declared.answer.Event.{Event}
use Rattle.walk_plan.specs.declared.goal.Goal.{Goal}
use Rattle.walk_plan.specs.declared.goal.Goal.TheVariants.{Follow, NoFollow, Deepest}
use Rattle.step_resolver.specs.Order.{Way, Line, Turn, found, failed, begins, events_of}
use Rattle.step_resolver.specs.Order as walk
use Rattle.step_resolver.specs.Headline.{Headline}
use Rattle.step_resolver.specs.View.{way_from}
use Rattle.step_resolver.specs.WalkHistory.{WalkInHistory, IsWalkInHistory, own_events}
use Rattle.root_ops.specs.CallHistory.{CallInHistory, IsCallInHistory, RepliesWith}
use Rattle.root_ops.specs.declared.op.Op.{Op}
use Rattle.root_ops.specs.declared.op.Op.TheVariants.{Resolve, ResolveNoFollow}
use Rattle.root_ops.specs.declared.op.Request.{Request}
use Rattle.root_ops.specs.declared.reply.Reply.{Reply}
use Rattle.root_ops.specs.declared.reply.Reply.TheVariants.{Fault}
use Rattle.root_ops.specs.EachCall as each
use Rattle.root_ops.specs.FreeHandles.{holds_few, FourAreFree, NumbersAreUsedUp}
use Rattle.root_ops.specs.Quiet.{ClosesWhatIsOpen}
use Rattle.root_ops.specs.TurnView.{below_of}
use Rattle.root_ops.specs.View.{reply_view}
use Rattle.race_core.specs.declared.plan.ActorPlan.{ActorPlan}
use Rattle.race_core.specs.declared.plan.Planned.TheVariants as planned
use Rattle.race_core.specs.declared.report.Outcome.{Outcome}
use Rattle.race_core.specs.declared.report.Outcome.TheVariants as outcome
use Rattle.race_core.specs.OwnHistory.{FirstIsOwn}
use Rattle.race_core.specs.Turns.{request_of, outcome_of}
use Rattle.race_core.specs.WorldCalls.{WholeRun, IsRun, opening_of, root_of, CallMade, kept_after_all, events_of_calls, ReleasesOwn, ActorsCalls}

-- in each report each actor's own events are those of its planned calls, in their order, and so are its replies
abbrev pub CallsInOrder : Type 0
CallsInOrder = (r : WholeRun) (i : ℕ) (plan : ActorPlan) → IsRun r → slice_get r.plans i ≡ Some plan
    → ActorsCalls r i plan

-- ---- windows

-- the report's events, those before the window and those after it aside; the actor's own among them are these
pub record IsWindow (r : WholeRun) (i : ℕ) (mine before window after : List Event) : Type 0 where
  pub whole : r.events ≡ before ++ (window ++ after)
  pub own : own_events i window ≡ mine

-- A window of the call's own events, after those of the calls before it, which begins with its first; and its reply
-- as a program gets it.
pub record HasWindow (r : WholeRun) (i : ℕ) (earlier : List CallMade) (c : CallMade) : Type 0 where
  pub before : List Event
  pub window : List Event
  pub after : List Event
  pub is_window : IsWindow r i (events_of i c.lines) before window after
  pub own_before : own_events i before ≡ events_of_calls i earlier
  pub first : FirstIsOwn i window
  pub reply : Reply
  pub is_reply : reply_view reply ≡ c.reply

-- each call has one
abbrev pub CallsHaveWindows : Type 0
CallsHaveWindows = (r : WholeRun) (i : ℕ) (plan : ActorPlan) (of : ActorsCalls r i plan) (earlier : List CallMade)
    (c : CallMade) (later : List CallMade) → of.calls ≡ earlier ++ c ∷ later → HasWindow r i earlier c

-- ---- walks

-- the walk with that window in the report's history
abbrev pub walk_in : WholeRun → ℕ → ℕ → Way → Reading → List Line → List Event → List Event → WalkInHistory
walk_in r i node way path lines before window = record {
  opening = opening_of r;
  before = before;
  window = window;
  actor = i;
  way = way;
  root = node;
  path = path;
  lines = lines;
}

-- It is a walk in a legal history, which ends so, and the headline holds of it.
pub record WalkTells (w : WalkInHistory) (end : Turn) : Type 0 where
  pub is_walk : IsWalkInHistory w
  pub leads : walk.LeadsTo w.way (begins w.way w.path) w.lines end
  pub headline : Headline w end

-- Each walk, alone or inside a call: in each window that has just its own events, of an actor whose plan closes only
-- what its calls opened.
abbrev pub WalksInReports : Type 0
WalksInReports = (r : WholeRun) (i : ℕ) (plan : ActorPlan) (of : ActorsCalls r i plan) (way : Way) (path : Reading)
    (lines : List Line) (end : Turn) (before window after : List Event)
    → ReleasesOwn (root_of r i).owner plan.calls → way.root ≡ (root_of r i).handle
    → IsWindow r i (events_of i lines) before window after → walk.LeadsTo way (begins way path) lines end
    → WalkTells (walk_in r i of.node way path lines before window) end

-- ---- calls

-- the call with that window in the report's history
abbrev pub call_in : WholeRun → ℕ → ℕ → CallMade → Request → List Event → List Event → CallInHistory
call_in r i node c request before window = record {
  opening = opening_of r;
  before = before;
  window = window;
  below = below_of (root_of r i) request.flags;
  root = node;
  room = c.room;
  op = request.op;
  lines = c.lines;
}

-- It is a call in a legal history, which replies so, and tells all that each call of root_ops tells; and what it was to
-- release was closed where it was open, so its quiet clause asks nothing more.
pub record CallTells (c : CallInHistory) (reply : Reply) : Type 0 where
  pub is_call : IsCallInHistory c
  pub replies : RepliesWith c (reply_view reply)
  pub tells : each.CallTells c reply
  pub closes : ClosesWhatIsOpen c

-- So it is of each call of an actor that asked for something, in each window that has just its own events, where the
-- actor's plan closes only what its calls opened.
abbrev pub CallsInReports : Type 0
CallsInReports = (r : WholeRun) (i : ℕ) (plan : ActorPlan) (of : ActorsCalls r i plan) (earlier : List CallMade)
    (c : CallMade) (later : List CallMade) (request : Request) (reply : Reply) (before window after : List Event)
    → ReleasesOwn (root_of r i).owner plan.calls → of.calls ≡ earlier ++ c ∷ later
    → request_of (root_of r i) (kept_after_all (root_of r i).owner [] earlier) c.planned ≡ Some request
    → reply_view reply ≡ c.reply → IsWindow r i (events_of i c.lines) before window after
    → CallTells (call_in r i of.node c request before window) reply

-- With four free handles as its window begins, a call ends in EMFILE only where numbers are used up; a RemoveAll needs
-- as many as its target is deep.
abbrev pub FourAreEnoughInReports : Type 0
FourAreEnoughInReports = (r : WholeRun) (i : ℕ) (plan : ActorPlan) (of : ActorsCalls r i plan)
    (earlier : List CallMade) (c : CallMade) (later : List CallMade) (request : Request) (reply : Reply)
    (before window after : List Event)
    → ReleasesOwn (root_of r i).owner plan.calls → of.calls ≡ earlier ++ c ∷ later
    → request_of (root_of r i) (kept_after_all (root_of r i).owner [] earlier) c.planned ≡ Some request
    → reply_view reply ≡ c.reply → IsWindow r i (events_of i c.lines) before window after
    → holds_few request.op ≡ true → FourAreFree (call_in r i of.node c request before window)
    → reply ≡ Fault TooMany
    → NumbersAreUsedUp (call_in r i of.node c request before window)

-- ---- one Resolve

-- the operation resolves that path: a link at its end is followed, or it is not
abbrev pub IsResolve : Op → Goal → List ℕ → Type 0
IsResolve op Follow path = op ≡ Resolve path
IsResolve op NoFollow path = op ≡ ResolveNoFollow path
IsResolve op Deepest path = ⊥

-- its walk below the actor's root
abbrev pub way_of_resolve : WholeRun → ℕ → Request → Goal → Way
way_of_resolve r i request goal = way_from (root_of r i) goal request.flags

-- it is told just what the call is told
abbrev pub walk_of_resolve : WholeRun → ℕ → ℕ → CallMade → Request → Goal → List ℕ → List Event → List Event
    → WalkInHistory
walk_of_resolve r i node c request goal path before window =
    walk_in r i node (way_of_resolve r i request goal) (reading_of path) c.lines before window

-- the text has that fault, or the call's first turn found no memory; no step was made
pub record FailsAtOnce (c : CallMade) (path : List ℕ) (error : Errno) : Type 0 where
  pub why : (text_fault path ≡ Some error) ⊎ ((c.room ≡ false) × (error ≡ NoMemory))
  pub no_step : c.lines ≡ []

-- What the outcome of a resolve tells of its walk; other outcomes don't come. Of what was opened the handle's number
-- isn't told.
abbrev pub ResolveTells : WalkInHistory → CallMade → List ℕ → Outcome → Type 0
ResolveTells w c path (outcome.Opened x kind names) =
    (number : ℕ) × WalkTells w (found (record { number = number; node = x; kind = kind }) (reverse names))
ResolveTells w c path (outcome.Fault error) = FailsAtOnce c path error ⊎ WalkTells w (failed error)
ResolveTells w c path (outcome.Text text) = ⊥
ResolveTells w c path outcome.Done = ⊥
ResolveTells w c path (outcome.Count n) = ⊥
ResolveTells w c path (outcome.Stepped answer) = ⊥

-- A Resolve of an actor, or a ResolveNoFollow, outright, in each window that has just its own events, where the
-- actor's plan closes only what its calls opened: its outcome in the report tells what the headline says.
abbrev pub ResolvesInReports : Type 0
ResolvesInReports = (r : WholeRun) (i : ℕ) (plan : ActorPlan) (of : ActorsCalls r i plan) (earlier : List CallMade)
    (c : CallMade) (later : List CallMade) (request : Request) (goal : Goal) (path : List ℕ)
    (before window after : List Event)
    → ReleasesOwn (root_of r i).owner plan.calls → of.calls ≡ earlier ++ c ∷ later
    → c.planned ≡ planned.Call request → IsResolve request.op goal path
    → IsWindow r i (events_of i c.lines) before window after
    → ResolveTells (walk_of_resolve r i of.node c request goal path before window) c path (outcome_of c.reply)

-- An actor that makes one such call and nothing else: what World::run reports as its outcome tells what the headline
-- says, in each window that has all its events.
pub record IsOnlyResolve (r : WholeRun) (i : ℕ) (plan : ActorPlan) (request : Request) (goal : Goal)
    (path : List ℕ) : Type 0 where
  pub of : ActorsCalls r i plan
  pub call : CallMade
  pub only : of.calls ≡ call ∷ []
  pub replied : slice_get r.replies i ≡ Some (outcome_of call.reply ∷ [])
  pub tells : (before window after : List Event) → IsWindow r i (own_events i r.events) before window after
      → ResolveTells (walk_of_resolve r i of.node call request goal path before window) call path
      (outcome_of call.reply)

abbrev pub ResolvesAlone : Type 0
ResolvesAlone = (r : WholeRun) (i : ℕ) (plan : ActorPlan) (request : Request) (goal : Goal) (path : List ℕ)
    → IsRun r → slice_get r.plans i ≡ Some plan
    → plan.calls ≡ planned.Call request ∷ [] → IsResolve request.op goal path
    → IsOnlyResolve r i plan request goal path
