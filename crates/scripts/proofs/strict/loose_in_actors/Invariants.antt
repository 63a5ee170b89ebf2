use Rattle.std.proofs.Common.{◌≡◌, drop}
use Rattle.serde_json.specs.View.{items_view}
use Rattle.scripts.specs.Strict.{loose_in_actors}
use Rattle.scripts.proofs.strict.loose_in_actors.Given as goal

-- nothing was found so far
abbrev pub invariant-loop-at : goal.invariant-loop-at
invariant-loop-at l = loose_in_actors l.version l.at (items_view (drop l.at l.actors)) ≡ loose_in_actors l.version 0 (items_view l.actors)
