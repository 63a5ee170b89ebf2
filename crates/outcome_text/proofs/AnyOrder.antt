-- Elements of which no two go along: so it is in any order of them.
use Rattle.std.proofs.Common.{◌≡◌, ℕ, suc, Bool, true, false, not, ◌&&◌, ◌||◌, List, [], ◌∷◌, refl, sym, ap, ◌∙◌, arith}
use Rattle.std.specs.Prelude.{cond}
use Rattle.std.specs.List.{AllByRecursion, count_by, list_any}
use Rattle.std.specs.List.Sorted.{IsPermutation}
use Rattle.std.proofs.lemmas.Bool.{false≢true, true≢false, and_parts, and_from}
use Rattle.std.proofs.lemmas.List.Elements.{All-from_recursion, recursion_from_All}
use Rattle.std.proofs.lemmas.List.Sorted.{All-permutation, sum_by-IsPermutation}
use Rattle.std.proofs.lemmas.List.Sums.{sum_by-cons}

module _ {X : Type 0} (along : X → X → Bool) (itself : (x : X) → along x x ≡ true) (either : (x y : X) → along x y ≡ along y x) where
  abbrev pub apart_in : List X → Bool
  apart_in [] = true
  apart_in (x ∷ xs) = not (list_any (along x) xs) && apart_in xs

  one_more : (p : X → Bool) (x : X) (xs : List X) → p x ≡ true → count_by p (x ∷ xs) ≡ suc (count_by p xs)
  one_more p x xs e = let here : ◌≡◌ {A = ℕ} (cond (p x) 1 0) 1 = ap (λ b. cond b 1 0) e in omega (arith, here, sum_by-cons (λ y. cond (p y) 1 0) x xs)

  no_more : (p : X → Bool) (x : X) (xs : List X) → p x ≡ false → count_by p (x ∷ xs) ≡ count_by p xs
  no_more p x xs e = let here : ◌≡◌ {A = ℕ} (cond (p x) 1 0) 0 = ap (λ b. cond b 1 0) e in omega (arith, here, sum_by-cons (λ y. cond (p y) 1 0) x xs)

  none_counted : (p : X → Bool) (xs : List X) → list_any p xs ≡ false → count_by p xs ≡ 0
  none_counted p [] e = refl
  none_counted p (x ∷ xs) e = by (p x) refl e (none_counted p xs)
    where
      by : (b : Bool) → p x ≡ b → (b || list_any p xs) ≡ false → (list_any p xs ≡ false → count_by p xs ≡ 0) → count_by p (x ∷ xs) ≡ 0
      by true q e rest = absurd (true≢false e)
      by false q e rest = no_more p x xs q ∙ rest e

  counted_none : (p : X → Bool) (xs : List X) → count_by p xs ≡ 0 → list_any p xs ≡ false
  counted_none p [] e = refl
  counted_none p (x ∷ xs) e = by (p x) refl (counted_none p xs)
    where
      by : (b : Bool) → p x ≡ b → (count_by p xs ≡ 0 → list_any p xs ≡ false) → (p x || list_any p xs) ≡ false
      by true q rest = absurd (omega (arith, e, one_more p x xs q))
      by false q rest = ap (λ b. b || list_any p xs) q ∙ rest (sym (no_more p x xs q) ∙ e)

  -- each goes along with itself alone
  abbrev Alone : List X → List X → Type 0
  Alone xs ys = AllByRecursion (λ y. count_by (along y) xs ≡ 1) ys

  with_first : (x : X) (xs ys : List X) → list_any (along x) ys ≡ false → Alone xs ys → Alone (x ∷ xs) ys
  with_first x xs [] e h = tt
  with_first x xs (y ∷ ys) e h = by (along x y) refl e (with_first x xs ys)
    where
      by : (b : Bool) → along x y ≡ b → (b || list_any (along x) ys) ≡ false → (list_any (along x) ys ≡ false → Alone xs ys → Alone (x ∷ xs) ys) → Alone (x ∷ xs) (y ∷ ys)
      by true q e rest = absurd (true≢false e)
      by false q e rest = (no_more (along y) x xs (either y x ∙ q) ∙ h.0, rest e h.1)

  alone_from_apart : (xs : List X) → apart_in xs ≡ true → Alone xs xs
  alone_from_apart [] e = tt
  alone_from_apart (x ∷ xs) e =
      let parts = and_parts (not (list_any (along x) xs)) (apart_in xs) e in
      let none : list_any (along x) xs ≡ false = flipped (list_any (along x) xs) parts.0 in
      (one_more (along x) x xs (itself x) ∙ ap (λ n. suc n) (none_counted (along x) xs none), with_first x xs xs none (alone_from_apart xs parts.1))
    where
      flipped : (b : Bool) → not b ≡ true → b ≡ false
      flipped true e = absurd (false≢true e)
      flipped false e = refl

  -- and where the first is left out
  without_first : (x : X) (xs ys : List X) → list_any (along x) ys ≡ false → Alone (x ∷ xs) ys → Alone xs ys
  without_first x xs [] e h = tt
  without_first x xs (y ∷ ys) e h = by (along x y) refl e (without_first x xs ys)
    where
      by : (b : Bool) → along x y ≡ b → (b || list_any (along x) ys) ≡ false → (list_any (along x) ys ≡ false → Alone (x ∷ xs) ys → Alone xs ys) → Alone xs (y ∷ ys)
      by true q e rest = absurd (true≢false e)
      by false q e rest = (sym (no_more (along y) x xs (either y x ∙ q)) ∙ h.0, rest e h.1)

  apart_from_alone : (xs : List X) → Alone xs xs → apart_in xs ≡ true
  apart_from_alone [] h = refl
  apart_from_alone (x ∷ xs) h =
      let more = one_more (along x) x xs (itself x) in
      let none : list_any (along x) xs ≡ false = counted_none (along x) xs (omega (arith, more, h.0)) in
      and_from (not (list_any (along x) xs)) (apart_in xs) (ap not none) (apart_from_alone xs (without_first x xs xs none h.1))

  counted_alike : (xs ys zs : List X) → IsPermutation xs ys → Alone xs zs → Alone ys zs
  counted_alike xs ys [] same h = tt
  counted_alike xs ys (z ∷ zs) same h = (sum_by-IsPermutation (λ y. cond (along z y) 1 0) xs ys same ∙ h.0, counted_alike xs ys zs same h.1)

  pub apart_in_any_order : (xs ys : List X) → IsPermutation xs ys → apart_in xs ≡ true → apart_in ys ≡ true
  apart_in_any_order xs ys same e =
      let P : X → Type 0 = λ y. count_by (along y) xs ≡ 1 in
      apart_from_alone ys (counted_alike xs ys ys same
      (recursion_from_All P ys (All-permutation P xs ys same (All-from_recursion P xs (alone_from_apart xs e)))))
