-- The parts that a walk is asked to pass: those of a path, each name with whether a link there is followed.
use Rattle.std.specs.Prelude.{ℕ, List, [], ◌∷◌, Bool, true, false, map}
use Rattle.path_text.specs.declared.part.Part.{Part}
use Rattle.path_text.specs.declared.part.Part.TheVariants as part
use Rattle.walk_plan.specs.declared.goal.Goal.{Goal}
use Rattle.walk_plan.specs.declared.goal.Goal.TheVariants.{Follow, NoFollow, Deepest}
pub use Rattle.walk_plan.specs.Plan.{follows}

pub data AskedPart : Type 0 where
  Cur : AskedPart
  Up : AskedPart
  Named : Bool → List ℕ → AskedPart

abbrev pub ask : Bool → Part → AskedPart
ask follow part.Cur = Cur
ask follow part.Up = Up
ask follow (part.Named n) = Named follow n

-- The parts of the caller's path. The very last one, where it is a name, is followed as the caller says; all
-- others are followed (path_resolution(7); O_NOFOLLOW of open(2)).
abbrev pub asked : Bool → List Part → List AskedPart
asked follow [] = []
asked follow (p ∷ []) = ask follow p ∷ []
asked follow (p ∷ q ∷ ps) = ask true p ∷ asked follow (q ∷ ps)

-- the parts of a link's text, which are followed to the end
abbrev pub followed : List Part → List AskedPart
followed ps = map (ask true) ps

abbrev pub is_deepest : Goal → Bool
is_deepest Follow = false
is_deepest NoFollow = false
is_deepest Deepest = true
