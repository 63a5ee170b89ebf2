-- What a walk's own steps leave as it was: statements of laws.
use Rattle.std.specs.Prelude.{◌≡◌, false}
use Rattle.tree_model.specs.StepLaws.{is_on_entries}
use Rattle.step_resolver.specs.Order.{Way, Walking, Turn, begins, due, LeadsTo}
use Rattle.step_resolver.specs.WalkHistory.{WalkInHistory, IsWalkInHistory}
use Rattle.step_resolver.specs.Moments.{AllLeaveEntries}

-- no step that is due makes, removes or renames an entry
abbrev pub DueStepsLeaveEntries : Type 0
DueStepsLeaveEntries = (way : Way) (walk : Walking) → is_on_entries (due way walk) ≡ false

-- and the nodes are the same before and after each own event of a walk's window, whatever others do in between
abbrev pub OwnEventsLeaveNodes : Type 0
OwnEventsLeaveNodes =
    (w : WalkInHistory) (end : Turn) → IsWalkInHistory w → LeadsTo w.way (begins w.way w.path) w.lines end
    → AllLeaveEntries w
