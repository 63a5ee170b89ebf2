-- Where the calls of sessions stand in the history that a closed service gives, and what the walks in them tell there.
use Rattle.std.specs.Prelude.{◌≡◌, ℕ, List, ◌++◌}
use Rattle.path_text.specs.Reading.{Reading}
use Rattle.tree_model.specs.declared.answer.Event.{Event}
use Rattle.tree_model.specs.State.{State}
use Rattle.step_resolver.specs.declared.walk.Root.{Root}
use Rattle.step_resolver.specs.Order.{Way, Line, Turn, begins, events_of}
use Rattle.step_resolver.specs.Order as walk
use Rattle.step_resolver.specs.Headline.{Headline}
use Rattle.step_resolver.specs.WalkHistory.{WalkInHistory, own_events}
use Rattle.race_core.specs.OwnHistory.{NoneCloses, IsHistory, Around}

-- What a session logged by one call stands in the history, after what it had logged before and before what it logs
-- later.
abbrev pub CallsStandInOrder : Type 0
CallsStandInOrder = (a : ℕ) (events earlier own later : List Event)
    → own_events a events ≡ earlier ++ (own ++ later) → Around a events earlier own later

-- a walk below a root in a history, with this window
abbrev pub walk_in : State → Root → ℕ → Way → Reading → List Line → List Event → List Event → WalkInHistory
walk_in opening root node way path lines before window = record {
  opening = opening;
  before = before;
  window = window;
  actor = root.owner.actor;
  way = way;
  root = node;
  path = path;
  lines = lines;
}

-- Each walk inside each call: in each window of the closed history that has just the events of the walk's lines as its
-- actor's own, the headline holds of it. The root wasn't closed before.
abbrev pub WalksInThreads : Type 0
WalksInThreads = (opening : State) (events : List Event) (root : Root) (node : ℕ) (way : Way) (path : Reading)
    (lines : List Line) (end : Turn) (before window rest : List Event)
    → IsHistory opening events root node → way.root ≡ root.handle
    → NoneCloses root.handle (own_events root.owner.actor before)
    → events ≡ before ++ (window ++ rest) → own_events root.owner.actor window ≡ events_of root.owner.actor lines
    → walk.LeadsTo way (begins way path) lines end
    → Headline (walk_in opening root node way path lines before window) end
