-- Bulk calls with the numbers of their handles replaced by others; everything else stays.
use Rattle.std.specs.Prelude.{◌≡◌, ℕ, List, [], ◌∷◌, ◌++◌}
pub use Rattle.step_resolver.specs.Renamed.{numbers_by, root_by, way_by, handle_by, position_by, walk_after_by, walking_by, walk_after_handles, walking_handles}
use Rattle.bulk_ops.specs.MakeAllOrder as make
use Rattle.bulk_ops.specs.RemoveAllOrder as remove
use Rattle.bulk_ops.specs.Renumbered.{for_handles}
use Rattle.bulk_ops.specs.Renumbered as all

abbrev pub making_by : (ℕ → ℕ) → make.Making → make.Making
making_by f = all.making_by (for_handles f)

abbrev pub level_by : (ℕ → ℕ) → remove.Level → remove.Level
level_by f = all.level_by (for_handles f)

abbrev pub levels_by : (ℕ → ℕ) → List remove.Level → List remove.Level
levels_by f = all.levels_by (for_handles f)

abbrev pub stage_by : (ℕ → ℕ) → remove.Stage → remove.Stage
stage_by f = all.stage_by (for_handles f)

abbrev pub removing_by : (ℕ → ℕ) → remove.Removing → remove.Removing
removing_by f = all.removing_by (for_handles f)

-- ---- the handles themselves, one by one

abbrev pub making_handles : make.Making → List ℕ
making_handles (make.walking w) = walking_handles w
making_handles (make.making held names n left) = held.number ∷ []
making_handles (make.opening held names n left) = held.number ∷ []
making_handles (make.leaving old new names left) = old ∷ new.number ∷ []
making_handles (make.ending held names) = held.number ∷ []
making_handles (make.closing h hs error) = h ∷ hs

abbrev pub stage_handles : remove.Stage → List ℕ
stage_handles remove.removes_file = []
stage_handles remove.opens = []
stage_handles (remove.lists h) = h ∷ []
stage_handles (remove.shuts h) = h ∷ []
stage_handles (remove.leaves h) = h ∷ []
stage_handles remove.removes_dir = []

abbrev pub levels_handles : List remove.Level → List ℕ
levels_handles [] = []
levels_handles (level ∷ levels) = level.dir ∷ levels_handles levels

abbrev pub removing_handles : remove.Removing → List ℕ
removing_handles (remove.walking way target w) = way.root ∷ walking_handles w
removing_handles (remove.clearing stage level above count left) =
    stage_handles stage ++ level.dir ∷ levels_handles above
removing_handles (remove.closing h hs end) = h ∷ hs

-- ---- the same but for the numbers of handles

abbrev pub LikeMaking : make.Making → make.Making → Type 0
LikeMaking m n = making_by (λ h. 0) m ≡ making_by (λ h. 0) n

abbrev pub LikeRemoving : remove.Removing → remove.Removing → Type 0
LikeRemoving r s = removing_by (λ h. 0) r ≡ removing_by (λ h. 0) s

-- Calls that are the same but for their handles, each of which gets one number in both, are the same with these
-- numbers.
abbrev pub LikeMakingAgrees : Type 0
LikeMakingAgrees = (f g : ℕ → ℕ) (m n : make.Making) → LikeMaking m n
    → numbers_by f (making_handles m) ≡ numbers_by g (making_handles n)
    → making_by f m ≡ making_by g n

abbrev pub LikeRemovingAgrees : Type 0
LikeRemovingAgrees = (f g : ℕ → ℕ) (r s : remove.Removing) → LikeRemoving r s
    → numbers_by f (removing_handles r) ≡ numbers_by g (removing_handles s)
    → removing_by f r ≡ removing_by g s
