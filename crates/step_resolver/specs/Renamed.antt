-- Walks with the numbers of their handles replaced by others; everything else stays.
use Rattle.std.specs.Prelude.{◌≡◌, ℕ, List, [], ◌∷◌, ◌++◌}
use Rattle.step_resolver.specs.declared.walk.Root.{Root}
use Rattle.step_resolver.specs.Order.{Way, Handle, Position, After, gives, onward, judges, Walking, opening, reading, rising, judging, duping, ending, closing, handles_of}
use Rattle.step_resolver.specs.Renumbered.{for_handles}
use Rattle.step_resolver.specs.Renumbered as all

abbrev pub numbers_by : (ℕ → ℕ) → List ℕ → List ℕ
numbers_by f = all.numbers_by (for_handles f)

abbrev pub root_by : (ℕ → ℕ) → Root → Root
root_by f = all.root_by (for_handles f)

abbrev pub way_by : (ℕ → ℕ) → Way → Way
way_by f = all.way_by (for_handles f)

abbrev pub handle_by : (ℕ → ℕ) → Handle → Handle
handle_by f = all.handle_by (for_handles f)

abbrev pub position_by : (ℕ → ℕ) → Position → Position
position_by f = all.position_by (for_handles f)

abbrev pub walk_after_by : (ℕ → ℕ) → After → After
walk_after_by f = all.walk_after_by (for_handles f)

abbrev pub walking_by : (ℕ → ℕ) → Walking → Walking
walking_by f = all.walking_by (for_handles f)

-- ---- the handles themselves, one by one

abbrev pub walk_after_handles : After → List ℕ
walk_after_handles (gives error) = []
walk_after_handles (onward position rest) = handles_of position
walk_after_handles (judges handle names rest) = handle.number ∷ []

abbrev pub walking_handles : Walking → List ℕ
walking_handles (opening position own follow n rest) = handles_of position
walking_handles (reading position link rest) = handles_of position ++ link.number ∷ []
walking_handles (rising handle names rest) = handle.number ∷ []
walking_handles (judging handle names rest) = handle.number ∷ []
walking_handles (duping rest) = []
walking_handles (ending handle names rest) = handle.number ∷ []
walking_handles (closing h hs after) = h ∷ (hs ++ walk_after_handles after)

-- ---- the same but for the numbers of handles

abbrev pub LikeWays : Way → Way → Type 0
LikeWays way other = way_by (λ h. 0) way ≡ way_by (λ h. 0) other

abbrev pub LikeWalks : Walking → Walking → Type 0
LikeWalks w v = walking_by (λ h. 0) w ≡ walking_by (λ h. 0) v

-- Walks that are the same but for their handles, each of which gets one number in both, are the same with these
-- numbers.
abbrev pub LikeWalksAgree : Type 0
LikeWalksAgree = (f g : ℕ → ℕ) (w v : Walking) → LikeWalks w v
    → numbers_by f (walking_handles w) ≡ numbers_by g (walking_handles v)
    → walking_by f w ≡ walking_by g v
