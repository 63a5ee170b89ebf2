-- Facts about the last part of a text.
use Rattle.std.proofs.Common.{◌≡◌, ℕ, ◌-◌, ◌≤◌, zero, suc, true, false, cond, List, [], ◌∷◌, length, get_or, take, drop, refl, sym, ap, ◌∙◌, arith, ◌⊎◌, inl, inr}
use Rattle.std.specs.Prelude.{◌==◌}
use Rattle.std.specs.List.{list_any}
use Rattle.std.proofs.lemmas.List.Folds.{list_any_at}
use Rattle.std.proofs.lemmas.List.{take_rest}
use Rattle.path_text.specs.declared.name.TheConstants.{SLASH}
use Rattle.system_calls.specs.Place.{last_part}

-- the byte before a place behind the first one
before : (b : ℕ) (bs : List ℕ) (at : ℕ) → (get_or (b ∷ bs) at 0 == SLASH) ≡ true → (at ≡ 0) ⊎ ((get_or bs (at - 1) 0 == SLASH) ≡ true)
before b bs zero slash = inl refl
before b bs (suc at) slash = let one : suc at - 1 ≡ at = omega arith in inr (ap (λ k. get_or bs k 0 == SLASH) one ∙ slash)

-- where a text without a slash is all that is left behind one, or is the whole, it is the last part
pub last_drop : (text : List ℕ) (at : ℕ) → at ≤ length text → list_any (λ b. b == SLASH) (drop at text) ≡ false
    → (at ≡ 0) ⊎ ((get_or text (at - 1) 0 == SLASH) ≡ true) → last_part text ≡ drop at text
last_drop [] zero within none first = refl
last_drop [] (suc at) within none first = refl
last_drop (b ∷ bs) zero within none first = ap (λ t. cond t (last_part bs) (b ∷ bs)) none
last_drop (b ∷ bs) (suc at) within none first =
    let one : suc at - 1 ≡ at = omega arith in
    let slash : (get_or (b ∷ bs) at 0 == SLASH) ≡ true =
    elim first as (λ f. (get_or (b ∷ bs) at 0 == SLASH) ≡ true) [ inl zeros ↦ absurd (omega (arith, zeros)) | inr is ↦ ap (λ k. get_or (b ∷ bs) k 0 == SLASH) (sym one) ∙ is ] in
    let some : list_any (λ c. c == SLASH) (b ∷ bs) ≡ true = list_any_at (λ c. c == SLASH) (b ∷ bs) at 0 (omega (arith, within)) slash in
    ap (λ t. cond t (last_part bs) (b ∷ bs)) some ∙ last_drop bs at (omega (arith, within)) none (before b bs at slash)

-- the rest of a text as a slice gives it
pub last_rest : (text rest : List ℕ) (at : ℕ) → rest ≡ take (length text - at) (drop at text) → at ≤ length text
    → list_any (λ b. b == SLASH) (drop at text) ≡ false → (at ≡ 0) ⊎ ((get_or text (at - 1) 0 == SLASH) ≡ true) → rest ≡ last_part text
last_rest text rest at is within none first = is ∙ take_rest text at ∙ sym (last_drop text at within none first)
