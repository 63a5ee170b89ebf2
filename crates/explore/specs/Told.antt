-- A class as it is told: its least list is gone through once more.
use Rattle.std.specs.Prelude.{◌≡◌, ℕ, List, length, Bool, Some, slice_get}
use Rattle.race_core.specs.Worlds.{WorldView}
use Rattle.layered_search.specs.declared.found.Class.{Class}
use Rattle.explore.specs.Search.{IsFull}
use Rattle.local_states.specs.Worlds.{after_turns, EndView, IsEndOf}

-- its outcome is the end of the world after the least list, if that is a full one; what was counted is as it was
pub record IsToldBy (w : WorldView) (outside : Bool) (counted class : Class EndView) : Type 0 where
  pub end : IsFull w counted.least.items → IsEndOf outside (after_turns w counted.least.items) class.outcome
  pub turns : class.least ≡ counted.least
  pub cuts : class.cuts ≡ counted.cuts
  pub changes : class.changes ≡ counted.changes
  pub lists : class.lists ≡ counted.lists

-- so it is with each, in order
pub record AreToldBy (w : WorldView) (outside : Bool) (counted classes : List (Class EndView)) : Type 0 where
  pub many : length classes ≡ length counted
  pub each : (k : ℕ) (one class : Class EndView) → slice_get counted k ≡ Some one → slice_get classes k ≡ Some class
      → IsToldBy w outside one class
