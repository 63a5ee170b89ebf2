-- A session as contracts see it.
use Rattle.std.specs.Prelude.{◌≡◌, ℕ, ◌+◌, ◌-◌, ◌≤◌, ◌==◌, List, [], ◌∷◌, Bool, false}
use Rattle.event_log.specs.Handles.{open_after}
use Rattle.handles.specs.declared.owner.Owner.{Owner}
use Rattle.tree_model.specs.declared.answer.Event.{Event}
use Rattle.tree_model.specs.StepLaws.{opened_count, closed_count}

-- whose it is, the handle of its root, the events of its calls, and whether one of them found the book full
pub record SessionView : Type 0 where
  pub owner : Owner
  pub root : ℕ
  pub log : List Event
  pub marked : Bool

-- how many handles these events leave open, where so many were open before
abbrev pub left_open : ℕ → List Event → ℕ
left_open n [] = n
left_open n (event ∷ events) =
    left_open ((n + opened_count event.answer) - closed_count event.answer event.step) events

-- by the log alone the handle is open: it is the root's or was opened, and wasn't closed since
abbrev pub leaves_open : ℕ → List Event → ℕ → Bool
leaves_open root log h = open_after h (root == h) log

-- the handles that the log leaves open are counted, the root's among them, and each has room for its Close
pub record IsSession (log : List Event) (open_handles room : ℕ) : Type 0 where
  pub counted : open_handles ≡ left_open 1 log
  pub in_room : open_handles ≤ room

-- without a call yet
abbrev pub begun : Owner → ℕ → SessionView
begun owner root = record { owner = owner; root = root; log = []; marked = false }
