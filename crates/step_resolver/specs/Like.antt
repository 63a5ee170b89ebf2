-- The same of what a walk holds: a place, and what is to come from there, but for the numbers of handles.
use Rattle.std.specs.Prelude.{◌≡◌, Option}
use Rattle.handles.specs.Objects.{ReachedObject}
use Rattle.walk_plan.specs.Plan.{PlanState}
use Rattle.walk_plan.specs.Same.{SameToCome}
use Rattle.step_resolver.specs.Renamed.{handle_by, position_by, walk_after_by}
use Rattle.step_resolver.specs.View.{handle_of, place_of, after_of}
use Rattle.step_resolver.specs.declared.pending.AfterClose.{AfterClose}

abbrev pub LikeHeld : ReachedObject → ReachedObject → Type 0
LikeHeld held other = handle_by (λ h. 0) (handle_of held) ≡ handle_by (λ h. 0) (handle_of other)

abbrev pub LikePlaces : PlanState → Option ReachedObject → PlanState → Option ReachedObject → Type 0
LikePlaces p place q other =
    position_by (λ h. 0) (place_of place p.names) ≡ position_by (λ h. 0) (place_of other q.names)

-- the same place, and all parts to come
abbrev pub LikeOnward : PlanState → Option ReachedObject → PlanState → Option ReachedObject → Type 0
LikeOnward p place q other = LikePlaces p place q other × SameToCome p q

abbrev pub LikeAfters : PlanState → Option ReachedObject → AfterClose → PlanState → Option ReachedObject
    → AfterClose → Type 0
LikeAfters p place after q other later =
    walk_after_by (λ h. 0) (after_of p place after) ≡ walk_after_by (λ h. 0) (after_of q other later)
