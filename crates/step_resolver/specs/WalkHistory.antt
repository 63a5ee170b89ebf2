-- A walk in a history: what is given, and the trails along which it passes parts.
use Rattle.std.specs.Prelude.{◌≡◌, ℕ, ◌==◌, List, true, Some, None}
use Rattle.std.specs.List.{filter}
use Rattle.path_text.specs.Reading.{Reading}
use Rattle.tree_model.specs.declared.answer.Event.{Event}
use Rattle.tree_model.specs.State.{State, is_dir}
use Rattle.tree_model.specs.Steps.{held}
use Rattle.tree_model.specs.Trees.{IsState}
use Rattle.tree_model.specs.History.{IsLegal, after_events, tree_at}
use Rattle.step_resolver.specs.Asked.{AskedPart, asked, follows}
use Rattle.step_resolver.specs.Meaning.{LINKS_MAX}
use Rattle.step_resolver.specs.Trail.{Timeline, Spot, Trail, at_root, timeline_of}
use Rattle.step_resolver.specs.Order.{Way, Line, events_of}

-- A walk in a history: the tree at the history's opening, the events before the walk, those of its window, whose
-- they are, the root's handle with what the walk is after, the node of that handle, the path, and what the walk was
-- told.
pub record WalkInHistory : Type 0 where
  pub opening : State
  pub before : List Event
  pub window : List Event
  pub actor : ℕ
  pub way : Way
  pub root : ℕ
  pub path : Reading
  pub lines : List Line

-- the tree as the window begins, and as it ends
abbrev pub begin_of : WalkInHistory → State
begin_of w = after_events w.opening w.before

abbrev pub end_of : WalkInHistory → State
end_of w = after_events (begin_of w) w.window

-- moments count from the window's beginning
abbrev pub state_at : WalkInHistory → ℕ → State
state_at w m = tree_at (begin_of w) w.window m

abbrev pub timeline : WalkInHistory → Timeline
timeline w = timeline_of (begin_of w) w.window w.actor w.root w.way.flags

abbrev pub parts_of_walk : WalkInHistory → List AskedPart
parts_of_walk w = asked (follows w.way.goal) w.path.parts

-- the events of an actor, in their order
abbrev pub own_events : ℕ → List Event → List Event
own_events a events = filter (λ event. event.actor == a) events

-- The opening is a tree, the history is legal, the actor's own events in the window are those of the walk, and the
-- root's handle is open, its own, and names a directory.
pub record IsWalkInHistory (w : WalkInHistory) : Type 0 where
  pub tree : IsState w.opening
  pub legal_before : IsLegal w.opening w.before
  pub legal : IsLegal (begin_of w) w.window
  pub own : own_events w.actor w.window ≡ events_of w.actor w.lines
  pub root : held (begin_of w) w.actor w.way.root ≡ Some w.root
  pub root_is_dir : is_dir (begin_of w).nodes w.root ≡ true

-- at the root, with all links left, as the window begins
abbrev pub start : WalkInHistory → Spot
start w = at_root (timeline w) LINKS_MAX 0

-- all of these parts were passed, at rising moments and with LINKS_MAX links at most
abbrev pub IsTrailTo : WalkInHistory → List AskedPart → Spot → Type 0
IsTrailTo w ps to = Trail (timeline w) ps (start w) to None
