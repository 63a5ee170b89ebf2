use Rattle.std.proofs.Common.{◌≡◌, ◌++◌, drop}
use Rattle.serde_json.specs.View.{items_view}
use Rattle.scripts.specs.Labels.{labels_from}
use Rattle.scripts.proofs.labels.labels_of.Given as goal

-- the labels so far and those of the calls that are left are all of them
abbrev pub invariant-loop-call : goal.invariant-loop-call
invariant-loop-call l = l.labels.items ++ labels_from l.call (items_view (drop l.call l.calls)) ≡ labels_from 0 (items_view l.calls)
