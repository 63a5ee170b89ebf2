-- The very last of the parts to come.
use Rattle.std.proofs.Common.{◌≡◌, ◌-◌, ◌<◌, ◌≤◌, zero, suc, ℕ, List, [], ◌∷◌, length, drop, refl, arith}
use Rattle.std.specs.Prelude.{None, slice_get}
use Rattle.path_text.specs.declared.part.Part.{Part}
use Rattle.walk_plan.specs.Same.{last_part}

pub last_is : (parts : List Part) → last_part parts ≡ slice_get parts (length parts - 1)
last_is [] = refl
last_is (part ∷ []) = refl
last_is (part ∷ other ∷ parts) =
    let more : length (part ∷ other ∷ parts) - 1 ≡ suc (length (other ∷ parts) - 1) = omega arith in rw more (last_is (other ∷ parts))

-- it is the same after some of them, where any are left
pub last_after : (passed : ℕ) (parts : List Part) → passed < length parts → last_part (drop passed parts) ≡ slice_get parts (length parts - 1)
last_after zero parts h = last_is parts
last_after (suc passed) [] h = absurd (omega (arith, h))
last_after (suc passed) (part ∷ []) h = absurd (omega (arith, h))
last_after (suc passed) (part ∷ other ∷ parts) h =
    let more : length (part ∷ other ∷ parts) - 1 ≡ suc (length (other ∷ parts) - 1) = omega arith in rw more (last_after passed (other ∷ parts) (omega (arith, h)))

pub none_after : (passed : ℕ) (parts : List Part) → length parts ≤ passed → last_part (drop passed parts) ≡ None
none_after zero [] h = refl
none_after zero (part ∷ parts) h = absurd (omega (arith, h))
none_after (suc passed) [] h = refl
none_after (suc passed) (part ∷ parts) h = none_after passed parts (omega (arith, h))
