use Rattle.std.proofs.Common.{◌≡◌, drop}
use Rattle.serde_json.specs.View.{items_view}
use Rattle.scripts.specs.Strict.{loose_in_calls}
use Rattle.scripts.proofs.strict.loose_in_calls.Given as goal

-- nothing was found so far
abbrev pub invariant-loop-at : goal.invariant-loop-at
invariant-loop-at l = loose_in_calls l.version l.actor l.at (items_view (drop l.at l.calls)) ≡ loose_in_calls l.version l.actor 0 (items_view l.calls)
