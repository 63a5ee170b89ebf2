-- Lists that are mapped to the same.
use Rattle.std.specs.Prelude.{◌≡◌, ◌<◌, ℕ, ◌+◌, zero, suc, List, [], ◌∷◌, ◌++◌, length, map, reverse, refl}
use Rattle.std.proofs.Common.{sym, ap, ◌∙◌, subst, arith, get_or, take}
use Rattle.std.proofs.lemmas.List.{map-append, reverse-append}
use Rattle.std.proofs.Math.Seq.{take-length}

module _ {A B : Type 0} (f : A → B) where
  pub same_lengths : (xs ys : List A) → map f xs ≡ map f ys → length xs ≡ length ys
  same_lengths [] [] e = refl
  same_lengths [] (y ∷ ys) e = cc
  same_lengths (x ∷ xs) [] e = cc
  same_lengths (x ∷ xs) (y ∷ ys) e = ap suc (same_lengths xs ys (let q : map f xs ≡ map f ys = cc in q))

  pub same_at : (xs ys : List A) (i : ℕ) (x y : A) → map f xs ≡ map f ys → i < length xs → x ≡ get_or xs i x → y ≡ get_or ys i y → f x ≡ f y
  same_at [] ys i x y e lt p q = absurd (omega arith)
  same_at (a ∷ xs) [] i x y e lt p q = cc
  same_at (a ∷ xs) (b ∷ ys) zero x y e lt p q = cc
  same_at (a ∷ xs) (b ∷ ys) (suc i) x y e lt p q = same_at xs ys i x y (let r : map f xs ≡ map f ys = cc in r) (omega arith) p q

  pub more : (xs : List A) (i : ℕ) (x : A) → i < length xs → x ≡ get_or xs i x → map f (take (i + 1) xs) ≡ map f (take i xs) ++ f x ∷ []
  more [] i x lt p = absurd (omega arith)
  more (a ∷ xs) zero x lt p = ap (λ b. f b ∷ []) (sym p)
  more (a ∷ xs) (suc i) x lt p =
      let e : suc i + 1 ≡ suc (i + 1) = omega arith in
      let P : ℕ → Type 0 = λ n. map f (take n (a ∷ xs)) ≡ f a ∷ (map f (take i xs) ++ f x ∷ []) in
      subst P (sym e) (ap (λ ys. f a ∷ ys) (more xs i x (omega arith) p))

  pub onto_reverse : (xs : List A) → map f (reverse xs) ≡ reverse (map f xs)
  onto_reverse [] = refl
  onto_reverse (x ∷ xs) =
      ap (map f) (reverse-append (x ∷ []) xs) ∙ (map-append f (reverse xs) (x ∷ []) ∙ (ap (λ (ys : List B). ys ++ f x ∷ []) (onto_reverse xs) ∙ sym (reverse-append (f x ∷ []) (map f xs))))

  pub whole : (xs ys : List A) (i : ℕ) → length xs ≡ i → length ys ≡ i → map f (take i xs) ≡ map f (take i ys) → map f xs ≡ map f ys
  whole xs ys i p q e =
      ap (map f) (sym (subst (λ (n : ℕ). take n xs ≡ xs) p (take-length xs))) ∙ (e ∙ ap (map f) (subst (λ (n : ℕ). take n ys ≡ ys) q (take-length ys)))
