-- A world after a run from the beginning.
use Rattle.std.specs.Prelude.{Bool}
use Rattle.race_core.specs.Worlds.{WorldView}

-- and whether changes outside of roots are told
pub record ReplayedView : Type 0 where
  pub told : Bool
  pub world : WorldView
