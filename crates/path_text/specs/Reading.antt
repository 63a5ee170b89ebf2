-- What a contract sees of a path.
use Rattle.std.specs.Prelude.{◌≡◌, ◌≤◌, List, [], ◌∷◌, Bool, true, false, length}
use Rattle.path_text.specs.declared.part.Part.{Part}
use Rattle.path_text.specs.declared.part.Part.TheVariants.{Cur}
use Rattle.path_text.specs.declared.path.TheConstants.{PARTS_MAX}

-- a path as it was read: whether it begins with a slash, its parts, and whether a slash at its end gave the last of
-- them
pub record Reading : Type 0 where
  pub absolute : Bool
  pub parts : List Part
  pub slash : Bool

-- the last of the parts is Cur
abbrev pub ends_in_cur : List Part → Bool
ends_in_cur [] = false
ends_in_cur (Cur ∷ []) = true
ends_in_cur (p ∷ []) = false
ends_in_cur (p ∷ q ∷ ps) = ends_in_cur (q ∷ ps)

-- the form that reading a text gives
pub record IsReading (r : Reading) : Type 0 where
  pub few : length r.parts ≤ PARTS_MAX
  pub marked : r.slash ≡ true → ends_in_cur r.parts ≡ true
