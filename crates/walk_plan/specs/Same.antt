-- Plans that have the same to come. Where a link at the very last of the caller's own parts is followed in the one
-- and not in the other, they differ; where that part is no name, it makes no difference what the goals say of a link
-- there.
use Rattle.std.specs.Prelude.{◌≡◌, List, [], ◌∷◌, Bool, not, ◌||◌, Option, Some, None}
use Rattle.path_text.specs.declared.part.Part.{Part}
use Rattle.walk_plan.specs.declared.goal.Goal.{Goal}
use Rattle.walk_plan.specs.Plan.{PlanState, follows, is_name}

-- the very last part, where one is left
abbrev pub last_part : List Part → Option Part
last_part [] = None
last_part (part ∷ []) = Some part
last_part (part ∷ other ∷ parts) = last_part (other ∷ parts)

-- not so where the very last part is a name at which a link isn't followed
abbrev pub follows_last : Goal → List Part → Bool
follows_last goal own = follows goal || not (is_name (last_part own))

-- the caller's own parts to come are the same
abbrev pub SameOwn : PlanState → PlanState → Type 0
SameOwn p q = (p.own ≡ q.own) × (follows_last p.goal p.own ≡ follows_last q.goal q.own)

-- all parts to come are the same, and as many links may still be followed
abbrev pub SameToCome : PlanState → PlanState → Type 0
SameToCome p q = (p.inner ≡ q.inner) × SameOwn p q × (p.links_left ≡ q.links_left)
