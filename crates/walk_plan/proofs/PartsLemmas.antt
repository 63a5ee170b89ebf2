-- Lists of parts, from the next one on.
use Rattle.std.proofs.Common.{◌≡◌, ℕ, zero, suc, ◌+◌, ◌<◌, ◌≤◌, List, [], ◌∷◌, ◌++◌, length, drop, nat_eq, refl, ap, ◌∙◌, arith, length-append}
use Rattle.std.specs.Prelude.{slice_get, None}
use Rattle.std.proofs.lemmas.Option.{slice_get_past}
use Rattle.std.proofs.lemmas.Bool.Decides.{nat_tests}
use Rattle.path_text.specs.declared.part.Part.{Part}
use Rattle.walk_plan.specs.Plan.{is_single, first_part, after_first}

pub first_is : (parts : List Part) → slice_get parts 0 ≡ first_part parts
first_is [] = refl
first_is (part ∷ parts) = refl

pub after_first_is : (parts : List Part) → drop 1 parts ≡ after_first parts
after_first_is [] = refl
after_first_is (part ∷ parts) = refl

-- a list is of one part where its length is 1
pub is_single-length : (parts : List Part) → is_single parts ≡ nat_eq (length parts) 1
is_single-length [] = refl
is_single-length (part ∷ []) = refl
is_single-length (part ∷ other ∷ parts) = grind (arith, nat_tests)

-- the same of the two lists of a plan
pub is_single_of_both : (inner own : List Part) → is_single (inner ++ own) ≡ nat_eq (length inner + length own) 1
is_single_of_both inner own = rw (is_single-length (inner ++ own), length-append inner own) refl

-- a part of the first list
pub at_inner : (inner own : List Part) (at : ℕ) → at < length inner → slice_get (inner ++ own) at ≡ slice_get inner at
at_inner [] own at within = let never : ⊥ = omega (arith, within) in absurd never
at_inner (part ∷ inner) own zero within = refl
at_inner (part ∷ inner) own (suc at) within = at_inner inner own at (omega (arith, within))

-- a part of the second
pub at_own : (inner own : List Part) (at behind : ℕ) → at ≡ length inner + behind → slice_get (inner ++ own) at ≡ slice_get own behind
at_own [] own at behind is = ap (slice_get own) (omega (arith, is))
at_own (part ∷ inner) own zero behind is = let never : ⊥ = omega (arith, is) in absurd never
at_own (part ∷ inner) own (suc at) behind is = at_own inner own at behind (omega (arith, is))

-- none behind both
pub past_own : (inner own : List Part) (at behind : ℕ) → at ≡ length inner + behind → length own ≤ behind → slice_get (inner ++ own) at ≡ None
past_own inner own at behind is past = at_own inner own at behind is ∙ slice_get_past own behind past
