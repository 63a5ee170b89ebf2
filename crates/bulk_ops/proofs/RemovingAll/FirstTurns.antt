-- What the first turn of a walk is to a call: something is held at an end, so that none comes before the first step.
use Rattle.std.specs.Prelude.{◌≡◌, Bool, true, false}
use Rattle.std.proofs.Common.{sym, subst}
use Rattle.path_text.specs.Reading.{Reading}
use Rattle.step_resolver.specs.Order.{Way}
use Rattle.step_resolver.specs.Order as walk
use Rattle.step_resolver.proofs.FirstTurns.{IsFirst, begins_first}
use Rattle.bulk_ops.specs.RemoveAllOrder.{failed}

module _ (way : Way) where
  for_walk_first : (room : Bool) (turn : walk.Turn) → IsFirst turn → IsFirst (walk.for_walk room turn)
  for_walk_first true turn first = first
  for_walk_first false (walk.more w) first = tt
  for_walk_first false (walk.found handle names) first = first
  for_walk_first false (walk.partial handle names rest) first = first
  for_walk_first false (walk.failed error) first = tt

  -- whatever a walk's first turn is, nothing is held in it
  pub starts_first : (path : Reading) (turn : walk.Turn) → (room : Bool) × (turn ≡ walk.starts way room path) → IsFirst turn
  starts_first path turn started = subst IsFirst (sym started.1) (for_walk_first started.0 (walk.begins way path) (begins_first way path))
