-- How many changes others make to entries, in a part of a history.
use Rattle.std.specs.Prelude.{ℕ, ◌≤◌, ◌==◌, ◌&&◌, List, Bool, not, count_by}
use Rattle.path_text.specs.declared.errno.Errno.TheVariants.{Raced}
use Rattle.tree_model.specs.declared.answer.Event.{Event}
use Rattle.tree_model.specs.StepLaws.{is_on_entries, only_tells}
use Rattle.step_resolver.specs.Order.{begins, failed, LeadsTo}
use Rattle.step_resolver.specs.WalkHistory.{WalkInHistory, IsWalkInHistory}

-- another actor's step made, removed or renamed an entry: it is one on entries, and wasn't refused
abbrev pub is_change_by_other : ℕ → Event → Bool
is_change_by_other a event = not (event.actor == a) && is_on_entries event.step && not (only_tells event.answer)

-- how many of the events are such changes
abbrev pub changes_by_others : ℕ → List Event → ℕ
changes_by_others a events = count_by (is_change_by_other a) events

-- A walk that ended in EAGAIN met one in its window.
abbrev pub RacedWalksNeedAChange : Type 0
RacedWalksNeedAChange = (w : WalkInHistory) → IsWalkInHistory w
    → LeadsTo w.way (begins w.way w.path) w.lines (failed Raced) → 1 ≤ changes_by_others w.actor w.window
