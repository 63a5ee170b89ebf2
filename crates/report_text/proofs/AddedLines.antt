-- Lines that are added one after another.
use Rattle.std.proofs.Common.{◌≡◌, ℕ, zero, suc, ◌+◌, ◌<◌, List, [], ◌∷◌, ◌++◌, length, drop, sym, ap, ◌∙◌, refl, add-one, arith}
use Rattle.std.specs.Prelude.{Option, Some, None, slice_get, IfSome}
use Rattle.std.proofs.lemmas.List.{append_assoc}
use Rattle.report_text.specs.Report.{numbered}

-- what is left is the element at a place and what is behind it
pub next_left : {A : Type 0} (xs : List A) (at : ℕ) (x : A) → slice_get xs at ≡ Some x → drop at xs ≡ x ∷ drop (suc at) xs
next_left [] at x e = absurd (cc)
next_left (y ∷ xs) zero x e = cc
next_left (y ∷ xs) (suc at) x e = next_left xs at x e

none_past : {A : Type 0} (xs : List A) (at : ℕ) → at < length xs → slice_get xs at ≡ None → ⊥
none_past [] at h e = omega (arith, h)
none_past (x ∷ xs) zero h e = absurd (cc)
none_past (x ∷ xs) (suc at) h e = none_past xs at (omega (arith, h)) e

-- one more line is added
pub numbered_more : {A B : Type 0} (line : ℕ → A → List B) (xs : List A) (at : ℕ) (x : A) (before after whole : List B) → slice_get xs at ≡ Some x → after ≡ before ++ line at x
    → before ++ numbered line at (drop at xs) ≡ whole → after ++ numbered line (at + 1) (drop (at + 1) xs) ≡ whole
numbered_more line xs at x before after whole found is_after h =
    let rest = numbered line (suc at) (drop (suc at) xs) in
    ap (λ n. after ++ numbered line n (drop n xs)) (add-one at)
    ∙ ap (λ bs. bs ++ rest) is_after ∙ append_assoc before (line at x) rest
    ∙ ap (λ left. before ++ numbered line at left) (sym (next_left xs at x found)) ∙ h

-- the same, where the element is told by its place
pub numbered_next : {A B : Type 0} (line : ℕ → A → List B) (xs : List A) (at : ℕ) (before after whole : List B) → at < length xs
    → IfSome (slice_get xs at) (λ x. after ≡ before ++ line at x)
    → before ++ numbered line at (drop at xs) ≡ whole → after ++ numbered line (at + 1) (drop (at + 1) xs) ≡ whole
numbered_next {A = A} line xs at before after whole within is_after h = by (slice_get xs at) refl is_after
  where
    by : (found : Option A) → slice_get xs at ≡ found → IfSome found (λ x. after ≡ before ++ line at x) → after ++ numbered line (at + 1) (drop (at + 1) xs) ≡ whole
    by (Some x) e is = numbered_more line xs at x before after whole e is h
    by None e is = absurd (none_past xs at within e)
