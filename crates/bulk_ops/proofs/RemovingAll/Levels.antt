-- The directories that are held, as the order of steps has them.
use Rattle.std.specs.Prelude.{◌≡◌, ℕ, zero, suc, ◌+◌, ◌<◌, List, [], ◌∷◌, ◌++◌, drop, length, map, refl}
use Rattle.std.proofs.Common.{sym, ap, not-suc-le-zero, le_of_suc-le-suc, add-one}
use Rattle.std.proofs.lemmas.List.{reverse-append}
use Rattle.bulk_ops.specs.declared.remove_all.frame.Frame.{Frame}
use Rattle.bulk_ops.specs.RemoveAllView.{name_at, level_of, level_at, levels_of}

pub level_at-drop : (d : ℕ) (names : List (List ℕ)) (k : ℕ) → k < length names
    → level_at d (drop k names) ≡ record { dir = d; name = name_at names k; others = drop (suc k) names } ∷ []
level_at-drop d [] k less = absurd (not-suc-le-zero less)
level_at-drop d (n ∷ names) zero less = refl
level_at-drop d (n ∷ names) (suc k) less = level_at-drop d names k (le_of_suc-le-suc less)

-- the same of the entry after the one under way
pub level_at-next : (d : ℕ) (names : List (List ℕ)) (at : ℕ) → at + 1 < length names
    → level_at d (drop (suc at) names) ≡ record { dir = d; name = name_at names (at + 1); others = drop (suc (at + 1)) names } ∷ []
level_at-next d names at less = rw (sym (add-one at)) (level_at-drop d names (at + 1) less)

-- one more directory above
pub levels_of-append : (frames : List Frame) (frame : Frame) → levels_of (frames ++ frame ∷ []) ≡ level_of frame ∷ levels_of frames
levels_of-append frames frame = ap (λ fs. map level_of fs) (reverse-append frames (frame ∷ []))
