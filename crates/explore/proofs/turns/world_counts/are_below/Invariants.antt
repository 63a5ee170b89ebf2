use Rattle.std.proofs.Common.{◌≡◌, ◌<◌, ℕ}
use Rattle.std.specs.Prelude.{Some, slice_get}
use Rattle.explore.proofs.turns.world_counts.are_below.Given as goal

abbrev pub invariant-loop-handle : goal.invariant-loop-handle
invariant-loop-handle l = (at h : ℕ) → at < l.handle-index → slice_get l.handles at ≡ Some h → h < l.given
