-- A walk in a call's window, whose object it saw below the root itself or the kernel did; and what comes after it.
use Rattle.std.specs.Prelude.{◌≡◌, ℕ, suc, ◌≤◌, List, [], ◌++◌}
use Rattle.tree_model.specs.declared.answer.Event.{Event}
use Rattle.tree_model.specs.Steps.{held_count}
use Rattle.step_resolver.specs.Order.{Handle, Line, found, events_of}
use Rattle.step_resolver.specs.Order as walk
use Rattle.step_resolver.specs.WalkHistory.{WalkInHistory, IsWalkInHistory, begin_of, own_events}
use Rattle.bulk_ops.specs.WalkFirst.{walk_part, rest_part, EndsInOwn}
use Rattle.kernel_walks.specs.SeenBelow.{SeenBelow}

-- A window begins with a walk on its way along its path, which found this object by what it was told. Its part of the
-- window ends in its own last event, the question where the object stands. The object was reached by the path's parts
-- and stood below the root then: from the window's beginning on, and from any later moment before the walk's own first
-- event.
pub record SeenTo (w : WalkInHistory) (handle : Handle) (names : List (List ℕ)) : Type 0 where
  pub window : List Event
  pub later : List Event
  pub windows : w.window ≡ window ++ later
  pub ends_in_own : EndsInOwn w.actor window
  pub lines : List Line
  pub rest : List Line
  pub all_lines : w.lines ≡ lines ++ rest
  pub own_later : own_events w.actor later ≡ events_of w.actor rest
  pub told : List Line
  pub leads : walk.LeadsTo w.way (walk.begins w.way w.path) told (found handle names)
  pub is_walk : IsWalkInHistory (walk_part w window lines)
  pub seen : SeenBelow (walk_part w window lines) handle names
  pub begun_later : (others onward : List Event) → window ≡ others ++ onward → own_events w.actor others ≡ []
      → SeenBelow (rest_part w others onward lines) handle names

-- what comes after the walk; its moments count from there
abbrev pub after_seen : {w : WalkInHistory} {handle : Handle} {names : List (List ℕ)} → SeenTo w handle names
    → WalkInHistory
after_seen {w} seen = rest_part w seen.window seen.later seen.rest

-- the walk opened one handle more than before at most
abbrev pub OneMoreHeld : {w : WalkInHistory} {handle : Handle} {names : List (List ℕ)} → SeenTo w handle names → Type 0
OneMoreHeld {w} seen = held_count (begin_of (after_seen seen)) w.actor ≤ suc (held_count (begin_of w) w.actor)
