-- When one of two worlds stands for both: each actor has the same part in them.
use Rattle.std.specs.Prelude.{◌≡◌, ℕ, Bool}
use Rattle.race_core.specs.Turns.{Luck}
use Rattle.race_core.specs.Worlds.{WorldView, turn}
use Rattle.local_states.specs.Local.{SameParts}
use Rattle.local_states.specs.Outside.{roots_of, outside_of}

-- each actor has the same part in both, and those whose changes are told have made as many outside of the same root
pub record IsSame (told : Bool) (w v : WorldView) : Type 0 where
  pub parts : SameParts w v
  pub roots : roots_of told w ≡ roots_of told v
  pub outside : outside_of told w ≡ outside_of told v

-- ---- the law

-- worlds that are the same act outside alike: the turn of an actor leads from such worlds to such worlds, with the same
-- luck
abbrev pub SameWorldsActOutsideAlike : Type 0
SameWorldsActOutsideAlike = (told : Bool) (w v : WorldView) (luck : Luck) (i : ℕ) → IsSame told w v
    → IsSame told (turn luck w i) (turn luck v i)
