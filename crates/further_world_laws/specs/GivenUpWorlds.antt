-- A world that is given up after some turns: what it tells, and what its actors hold then. Statements of laws.
use Rattle.std.specs.Prelude.{◌≡◌, ◌⊎◌, ◌+◌, ℕ, List, [], ◌∷◌, ◌++◌, Bool, true, false, length, Option, Some, None, Ok, Err, slice_get}
use Rattle.tree_model.specs.State.{State}
use Rattle.tree_model.specs.Steps.{held}
use Rattle.tree_model.specs.Trees.{IsState}
use Rattle.handles.specs.Objects.{StandingObject}
use Rattle.step_resolver.specs.declared.walk.Root.{Root}
use Rattle.step_resolver.specs.WalkHistory.{own_events}
use Rattle.root_ops.specs.View.{CallView}
use Rattle.race_core.specs.declared.plan.ActorPlan.{ActorPlan}
use Rattle.race_core.specs.declared.report.Outcome.{Outcome}
use Rattle.race_core.specs.declared.report.Outcome.TheVariants as outcomes
use Rattle.race_core.specs.declared.report.WorldFault.TheVariants as fault
use Rattle.race_core.specs.declared.seat.Seat.{Seat}
use Rattle.race_core.specs.Book.{BookedHistory, tree_now}
use Rattle.race_core.specs.EndHandles.{all_words, last_word}
use Rattle.race_core.specs.GivenUp.{AllGiveUp}
use Rattle.race_core.specs.JoinedRuns.{TakesTurns}
use Rattle.race_core.specs.Opening.{Opens}
use Rattle.race_core.specs.WorldCalls.{WholeRun, IsRun, CallMade, AreMade, planned_of, outcomes_of, events_of_calls, ReleasesOwn}
use Rattle.race_core.specs.Worlds.{WorldView, Turns}

-- ---- a world that is given up

-- The tree that was given, what the actors are to do, and how many lines the book has; the world as it was made; who
-- took each turn, one after another; the world after these; and the book once all calls under way were given up.
pub record GivenUpWorld : Type 0 where
  pub given : State
  pub plans : List ActorPlan
  pub lines : ℕ
  pub world : WorldView
  pub made : List ℕ
  pub last : WorldView
  pub after : BookedHistory

-- What was given is a tree, the world was made over it, each turn was Ok, and then each call under way was given up,
-- the actors in their order.
pub record WasGivenUp (g : GivenUpWorld) : Type 0 where
  pub tree : IsState g.given
  pub opens : Opens g.given g.plans g.lines (Ok g.world)
  pub turns : TakesTurns g.world g.made g.last
  pub gives_up : AllGiveUp g.last.book g.last.seats g.after

-- the tree with the roots granted, before any event
abbrev pub opening_tree : GivenUpWorld → State
opening_tree g = g.world.book.opening

-- the root of the actor of that number: the roots are granted in the order of the actors' numbers
abbrev pub granted_root : GivenUpWorld → ℕ → Root
granted_root g i = record { owner = record { tag = 0; actor = i }; handle = length g.given.handles + i }

-- Whoever acts on whatever book, their calls under way can be given up: each goes to its end.
abbrev pub GivingUpEnds : Type 0
GivingUpEnds = (book : BookedHistory) (seats : List Seat) → (after : BookedHistory) × AllGiveUp book seats after

-- ---- what it tells

-- whether the outcome says that something was opened
abbrev pub tells_opened : Outcome → Bool
tells_opened (outcomes.Opened x kind names) = true
tells_opened (outcomes.Text text) = false
tells_opened outcomes.Done = false
tells_opened (outcomes.Count n) = false
tells_opened (outcomes.Stepped answer) = false
tells_opened (outcomes.Fault error) = false

-- what a call under way came to as it was given up: it opened nothing
abbrev pub LastOutcome : Option CallView → List Outcome → Type 0
LastOutcome None told = told ≡ []
LastOutcome (Some call) told = (outcome : Outcome) × ((told ≡ outcome ∷ []) × (tells_opened outcome ≡ false))

-- The actor's plan without the calls that were still to come. Of those that it had begun the outcomes are those taken
-- down so far, and that of the call that was given up.
pub record IsCutPlan (plan : ActorPlan) (seat : Seat) (cut : ActorPlan) (told : List Outcome) : Type 0 where
  pub root : cut.root ≡ plan.root
  pub calls : plan.calls ≡ cut.calls ++ seat.ledger.to_come
  pub last : List Outcome
  pub outcomes : told ≡ seat.ledger.outcomes ++ last
  pub is_last : LastOutcome seat.doing last

-- A report on the same turns, of a world over the same tree in which the actors do this: its tree and its events are
-- those that the given up world was left with.
abbrev pub report_on : GivenUpWorld → List ActorPlan → WorldView → List (List Outcome) → List StandingObject → WholeRun
report_on g plans world replies kept = record {
  given = g.given;
  plans = plans;
  lines = g.lines;
  world = world;
  schedule = g.made;
  tree = tree_now g.after;
  events = g.after.events;
  replies = replies;
  kept = kept;
}

-- There is such a report, in which each actor plans just the calls that it had begun.
pub record IsReported (g : GivenUpWorld) : Type 0 where
  pub plans : List ActorPlan
  pub world : WorldView
  pub replies : List (List Outcome)
  pub kept : List StandingObject
  pub is_run : IsRun (report_on g plans world replies kept)
  pub opening : world.book.opening ≡ opening_tree g
  pub actors : length plans ≡ length g.plans
  pub each : (i : ℕ) (plan : ActorPlan) (seat : Seat) → slice_get g.plans i ≡ Some plan
      → slice_get g.last.seats i ≡ Some seat → (cut : ActorPlan) × ((slice_get plans i ≡ Some cut)
      × ((told : List Outcome) × ((slice_get replies i ≡ Some told) × IsCutPlan plan seat cut told)))

-- A world that is given up is left as one that ran to its end, and had planned no call that wasn't begun. So all that
-- the laws of reports say holds of its events, too.
abbrev pub GivenUpIsReported : Type 0
GivenUpIsReported = (g : GivenUpWorld) → WasGivenUp g → IsReported g

-- The room to take down a call's end ran short at the last turn, which says NoMemory then; each turn from then on says
-- so too, and changes nothing. The world is given up as one in which that end was taken down, and the turn Ok.
abbrev pub CutShortLikewise : Type 0
CutShortLikewise = (w v : WorldView) (i : ℕ) (after : BookedHistory) → w.spent ≡ false
    → Turns w i v (Err fault.NoMemory) → AllGiveUp v.book v.seats after
    → (u : WorldView) × (Turns w i u (Ok tt) × AllGiveUp u.book u.seats after)

-- ---- what its actors hold

-- one call where one was under way, and else none
abbrev pub OneIfUnderWay : Option CallView → List CallMade → Type 0
OneIfUnderWay None calls = calls ≡ []
OneIfUnderWay (Some call) calls = (c : CallMade) × (calls ≡ c ∷ [])

-- The actor's calls that had ended, and the one that was given up, if one was under way. The actor holds what their
-- replies say, as at the end of a report. Each handle is as the calls that had ended left it, or it is closed: the one
-- that was given up has left nothing open that it opened, and may be a Release.
pub record HoldsAfter (g : GivenUpWorld) (i : ℕ) (plan : ActorPlan) (seat : Seat) : Type 0 where
  pub ended : List CallMade
  pub told : outcomes_of ended ≡ seat.ledger.outcomes
  pub given_up : List CallMade
  pub under_way : OneIfUnderWay seat.doing given_up
  pub planned : plan.calls ≡ planned_of (ended ++ given_up) ++ seat.ledger.to_come
  pub made : AreMade (granted_root g i) [] (ended ++ given_up)
  pub own : own_events i g.after.events ≡ events_of_calls i (ended ++ given_up)
  pub handles : (h : ℕ) → held (tree_now g.after) i h
      ≡ last_word (held (opening_tree g) i h) h (all_words (granted_root g i) [] (ended ++ given_up))
  pub no_more : (h : ℕ) → (held (tree_now g.after) i h
      ≡ last_word (held (opening_tree g) i h) h (all_words (granted_root g i) [] ended))
      ⊎ (held (tree_now g.after) i h ≡ None)

-- Once a world is given up, an actor's open handles are those from the opening, its root among them, and those that
-- its calls which had ended opened, less those that a Release of its own closed; and nothing else. What a call that
-- was given up had opened is closed. The actor's plan closes only what its calls opened.
abbrev pub GivenUpClosesAll : Type 0
GivenUpClosesAll = (g : GivenUpWorld) (i : ℕ) (plan : ActorPlan) (seat : Seat) → WasGivenUp g
    → slice_get g.plans i ≡ Some plan → slice_get g.last.seats i ≡ Some seat
    → ReleasesOwn (granted_root g i).owner plan.calls → HoldsAfter g i plan seat
