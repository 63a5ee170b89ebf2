-- The keys by which a search knows worlds.
use Rattle.std.specs.Prelude.{◌≡◌, ℕ, Bool, length}
use Rattle.layered_search.specs.System.{Keys}
use Rattle.race_core.specs.Worlds.{WorldView}
use Rattle.local_states.specs.declared.keys.Key.{Key}
use Rattle.local_states.specs.Keys.{AreFew, AreRows, Grows, AreSameKeys, AreSameKeysButOutside, print_of}
use Rattle.local_states.specs.Keys as keys
use Rattle.explore.specs.Effects.{KnownView, IsSound}

-- what is known is so, of worlds after turns from w
pub record IsKnown (told : Bool) (w : WorldView) (known : KnownView) : Type 0 where
  pub sound : IsSound w known
  pub told_is : known.components.told ≡ told

-- it is the key of a world after so many turns from w
pub record IsKeyOf (told : Bool) (w : WorldView) (known : KnownView) (n : ℕ) (v : WorldView) (key : Key) : Type 0 where
  pub told_is : known.components.told ≡ told
  pub rows : AreRows known.components.parts (length w.seats)
  pub is : keys.IsKey known.components w v key
  pub few : AreFew n key

-- Keys are the same where all their numbers are; they count as one where they are the same but for changes outside of
-- roots.
abbrev pub world_keys : Bool → WorldView → Keys WorldView KnownView Key
world_keys told w = record {
  IsSound = IsKnown told w;
  Grows = λ old new. Grows old.components new.components;
  IsKey = IsKeyOf told w;
  AreSame = AreSameKeys;
  CountAsOne = AreSameKeysButOutside;
  print_of = print_of;
}
