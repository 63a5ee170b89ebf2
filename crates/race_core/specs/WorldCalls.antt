-- What a report tells of each actor: its calls in their order, each with its lines and its reply.
use Rattle.std.specs.Prelude.{◌≡◌, ◌≢◌, ◌+◌, ℕ, List, [], ◌∷◌, ◌++◌, Bool, length, map, Option, Some, None, Ok, slice_get}
use Rattle.path_text.specs.declared.errno.Errno.TheVariants.{BadHandle}
use Rattle.tree_model.specs.declared.answer.Event.{Event}
use Rattle.tree_model.specs.State.{State}
use Rattle.tree_model.specs.Trees.{IsState}
use Rattle.tree_model.specs.History.{after_events}
use Rattle.handles.specs.declared.owner.Owner.{Owner}
use Rattle.handles.specs.Objects.{StandingObject}
use Rattle.step_resolver.specs.declared.walk.Root.{Root}
use Rattle.step_resolver.specs.Order.{Line, events_of}
use Rattle.step_resolver.specs.WalkHistory.{own_events}
use Rattle.root_ops.specs.declared.op.Op.TheVariants.{Release}
use Rattle.root_ops.specs.declared.op.Request.{Request}
use Rattle.root_ops.specs.Order.{Reply, done, fault, ends, starts, LeadsTo}
use Rattle.root_ops.specs.TurnView.{below_of}
use Rattle.race_core.specs.declared.plan.ActorPlan.{ActorPlan}
use Rattle.race_core.specs.declared.plan.Planned.{Planned}
use Rattle.race_core.specs.declared.plan.Planned.TheVariants as planned
use Rattle.race_core.specs.declared.report.Outcome.{Outcome}
use Rattle.race_core.specs.Opening.{Opens}
use Rattle.race_core.specs.OwnHistory.{NoneCloses, IsHistory}
use Rattle.race_core.specs.Turns.{standing_under, request_of, left_by, opened_by, outcome_of}
use Rattle.race_core.specs.Worlds.{WorldView, RunsTo}

-- ---- a world's whole run

-- The tree that was given, what the actors are to do, and how many lines the book has; the world as it was made; the
-- schedule; and the report: the tree at the end, the events, the outcomes of each actor's calls, and what was
-- another owner's to release.
pub record WholeRun : Type 0 where
  pub given : State
  pub plans : List ActorPlan
  pub lines : ℕ
  pub world : WorldView
  pub schedule : List ℕ
  pub tree : State
  pub events : List Event
  pub replies : List (List Outcome)
  pub kept : List StandingObject

-- What was given is a tree, the world was made over it, and ran to this report.
pub record IsRun (r : WholeRun) : Type 0 where
  pub tree : IsState r.given
  pub opens : Opens r.given r.plans r.lines (Ok r.world)
  pub runs : RunsTo r.world r.schedule r.tree r.events r.replies r.kept

-- the tree with the roots granted, before any event
abbrev pub opening_of : WholeRun → State
opening_of r = r.world.book.opening

-- the root of the actor of that number: the roots are granted in the order of the actors' numbers
abbrev pub root_of : WholeRun → ℕ → Root
root_of r i = record { owner = record { tag = 0; actor = i }; handle = length r.given.handles + i }

-- ---- calls

-- A call from its start to its end: what was planned, whether its first turn had memory, what it was told at each
-- step, and its reply.
pub record CallMade : Type 0 where
  pub planned : Planned
  pub room : Bool
  pub lines : List Line
  pub reply : Reply

-- A call that names what isn't held is refused without a step. Of any other the lines lead, by the order of the
-- operation's steps, from its first turn to its reply.
abbrev pub IsMadeAs : Root → Option Request → CallMade → Type 0
IsMadeAs root None c = (c.lines ≡ []) × (c.reply ≡ fault BadHandle)
IsMadeAs root (Some request) c = LeadsTo (below_of root request.flags)
    (starts (below_of root request.flags) c.room request.op) c.lines (ends c.reply)

-- what is kept once the call has ended, by the calls' numbers: what it released no more, and what it opened
abbrev pub kept_after : Owner → List (Option StandingObject) → CallMade → List (Option StandingObject)
kept_after owner standings c = left_by c.planned standings ++ opened_by owner c.reply ∷ []

abbrev pub kept_after_all : Owner → List (Option StandingObject) → List CallMade → List (Option StandingObject)
kept_after_all owner standings [] = standings
kept_after_all owner standings (c ∷ calls) = kept_after_all owner (kept_after owner standings c) calls

-- these calls were made one after another, each asking for what is planned with what is kept as it starts
abbrev pub AreMade : Root → List (Option StandingObject) → List CallMade → Type 0
AreMade root standings [] = Unit {0}
AreMade root standings (c ∷ calls) =
    IsMadeAs root (request_of root standings c.planned) c × AreMade root (kept_after root.owner standings c) calls

abbrev pub planned_of : List CallMade → List Planned
planned_of calls = map (λ (c : CallMade). c.planned) calls

abbrev pub outcomes_of : List CallMade → List Outcome
outcomes_of calls = map (λ (c : CallMade). outcome_of c.reply) calls

-- the events of the calls, in their order: the lines that were made
abbrev pub events_of_calls : ℕ → List CallMade → List Event
events_of_calls a [] = []
events_of_calls a (c ∷ calls) = events_of a c.lines ++ events_of_calls a calls

-- ---- what is released

-- A plan closes only what its own calls opened, each named by its number: no call of it asks for the Release of a
-- Standing from elsewhere that has its owner. One of another owner may be handed in; it is kept.
abbrev pub ReleasesOwn : Owner → List Planned → Type 0
ReleasesOwn owner [] = Unit {0}
ReleasesOwn owner (planned.Call request ∷ calls) =
    ((standing : StandingObject) → request.op ≡ Release standing → standing.owner ≢ owner) × ReleasesOwn owner calls
ReleasesOwn owner (planned.Single step ∷ calls) = ReleasesOwn owner calls
ReleasesOwn owner (planned.Release call ∷ calls) = ReleasesOwn owner calls

-- where that call keeps what it opened as this one begins, and this one releases it, it is done
abbrev pub IsDoneIfKept : List (Option StandingObject) → CallMade → Type 0
IsDoneIfKept standings c =
    (call : ℕ) (standing : StandingObject) → c.planned ≡ planned.Release call
    → standing_under standings call ≡ Some standing → c.reply ≡ done

abbrev pub KeptAreReleased : Owner → List (Option StandingObject) → List CallMade → Type 0
KeptAreReleased owner standings [] = Unit {0}
KeptAreReleased owner standings (c ∷ calls) =
    IsDoneIfKept standings c × KeptAreReleased owner (kept_after owner standings c) calls

-- ---- an actor in a report

-- The actor's calls, in their order: those that were planned, made with what those before them keep; its own events
-- are theirs, and the replies in the report are their outcomes. The history is legal, its root is open as it begins,
-- and the tree is the one that the events lead to. Where the plan closes only what its calls opened, none of its
-- events closes the root, and each Release of what is kept is done.
pub record ActorsCalls (r : WholeRun) (i : ℕ) (plan : ActorPlan) : Type 0 where
  pub node : ℕ
  pub history : IsHistory (opening_of r) r.events (root_of r i) node
  pub leads : r.tree ≡ after_events (opening_of r) r.events
  pub calls : List CallMade
  pub planned : planned_of calls ≡ plan.calls
  pub made : AreMade (root_of r i) [] calls
  pub own : own_events i r.events ≡ events_of_calls i calls
  pub replies : slice_get r.replies i ≡ Some (outcomes_of calls)
  pub spared : ReleasesOwn (root_of r i).owner plan.calls → NoneCloses (root_of r i).handle (own_events i r.events)
  pub released : ReleasesOwn (root_of r i).owner plan.calls → KeptAreReleased (root_of r i).owner [] calls
