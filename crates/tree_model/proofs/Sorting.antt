-- Lists put in order: they are in order, have the same elements, and are the only such lists.
use Rattle.std.proofs.Common.{◌≡◌, ◌≢◌, ℕ, zero, suc, ◌+◌, ◌<◌, Bool, true, false, cond, List, [], ◌∷◌, get_or, Ordering, Less, Equal, Greater, refl, sym, ap, ◌∙◌, subst, arith}
use Rattle.std.specs.Cmp.{IsTotalOrder}
use Rattle.std.specs.List.{AllByRecursion, count_by}
use Rattle.std.specs.List.Sorted.{IsSorted, IsPermutation, IsStrictlySortedBy}
use Rattle.std.specs.Ordering.{is_lt, is_eq, ordering_reverse}
use Rattle.std.proofs.lemmas.Bool.{false≢true, true≢false}
use Rattle.std.proofs.lemmas.List.Sorted.{IsPermutation-refl, IsPermutation-cons, IsPermutation-swap, IsPermutation-trans, sum_by-IsPermutation}
use Rattle.std.proofs.lemmas.List.Sums.{sum_by-cons}
use Rattle.tree_model.specs.Sorted.{insert_by, sorted_by}

-- an element that is none of these
abbrev pub IsNew : {A : Type 0} → A → List A → Type 0
IsNew x xs = AllByRecursion (λ y. y ≢ x) xs

module _ {A : Type 0} (order : A → A → Ordering) where
  -- no element is less than the one before it
  abbrev Ascends : List A → Type 0
  Ascends [] = Unit {0}
  Ascends (x ∷ []) = Unit {0}
  Ascends (x ∷ y ∷ ys) = (is_lt (order y x) ≡ false) × Ascends (y ∷ ys)

  -- each element is less than the next
  abbrev pub Rises : List A → Type 0
  Rises [] = Unit {0}
  Rises (x ∷ []) = Unit {0}
  Rises (x ∷ y ∷ ys) = (order x y ≡ Less) × Rises (y ∷ ys)

module _ {A : Type 0} (order : A → A → Ordering) (total : IsTotalOrder order) where
  -- ---- in order

  not_both_less : (x y : A) → is_lt (order x y) ≡ true → is_lt (order y x) ≡ false
  not_both_less x y e = ap is_lt (total.antisymm y x) ∙ by (order x y) e
    where
      by : (o : Ordering) → is_lt o ≡ true → is_lt (ordering_reverse o) ≡ false
      by Less e = refl
      by Equal e = refl
      by Greater e = absurd (false≢true e)

  -- an element that isn't less than the first is put behind it
  Ascends-insert_behind : (y x : A) (xs : List A) → Ascends order (y ∷ xs) → is_lt (order x y) ≡ false → Ascends order (y ∷ insert_by order x xs)
  Ascends-insert_behind y x [] h e = (e, tt)
  Ascends-insert_behind y x (z ∷ xs) h e = by (is_lt (order x z)) refl (λ e'. Ascends-insert_behind z x xs h.1 e')
    where
      by : (b : Bool) → is_lt (order x z) ≡ b → (is_lt (order x z) ≡ false → Ascends order (z ∷ insert_by order x xs))
          → Ascends order (y ∷ cond b (x ∷ z ∷ xs) (z ∷ insert_by order x xs))
      by true e' behind = (e, (not_both_less x z e', h.1))
      by false e' behind = (h.0, behind e')

  Ascends-insert_by : (x : A) (xs : List A) → Ascends order xs → Ascends order (insert_by order x xs)
  Ascends-insert_by x [] h = tt
  Ascends-insert_by x (y ∷ xs) h = by (is_lt (order x y)) refl
    where
      by : (b : Bool) → is_lt (order x y) ≡ b → Ascends order (cond b (x ∷ y ∷ xs) (y ∷ insert_by order x xs))
      by true e = (not_both_less x y e, h)
      by false e = Ascends-insert_behind y x xs h e

  Ascends-sorted_by : (xs : List A) → Ascends order (sorted_by order xs)
  Ascends-sorted_by [] = tt
  Ascends-sorted_by (x ∷ xs) = Ascends-insert_by x (sorted_by order xs) (Ascends-sorted_by xs)

  Ascends-tail : (x : A) (xs : List A) → Ascends order (x ∷ xs) → Ascends order xs
  Ascends-tail x [] h = tt
  Ascends-tail x (y ∷ xs) h = h.1

  IsSorted-Ascends : (xs : List A) → Ascends order xs → IsSorted order xs
  IsSorted-Ascends [] h k d low high = absurd (omega arith)
  IsSorted-Ascends (x ∷ []) h k d low high = absurd (omega arith)
  IsSorted-Ascends (x ∷ y ∷ xs) h zero d low high = h.0
  IsSorted-Ascends (x ∷ y ∷ xs) h (suc k) d low high =
      let next : suc (k + 1) ≡ suc k + 1 = omega arith in
      subst (λ i. is_lt (order (get_or (x ∷ y ∷ xs) i d) (get_or (y ∷ xs) k d)) ≡ false) next
      (IsSorted-Ascends (y ∷ xs) h.1 k d (omega arith) (omega arith))

  Ascends-IsSorted : (xs : List A) → IsSorted order xs → Ascends order xs
  Ascends-IsSorted [] h = tt
  Ascends-IsSorted (x ∷ []) h = tt
  Ascends-IsSorted (x ∷ y ∷ xs) h = (
    h 0 x (omega arith) (omega arith),
    Ascends-IsSorted (y ∷ xs) (λ k d low high.
        let next : suc k + 1 ≡ suc (k + 1) = omega arith in
        subst (λ i. is_lt (order (get_or (x ∷ y ∷ xs) i d) (get_or (y ∷ xs) k d)) ≡ false) next (h (suc k) d (omega arith) (omega arith))),
  )

  pub IsSorted-sorted_by : (xs : List A) → IsSorted order (sorted_by order xs)
  IsSorted-sorted_by xs = IsSorted-Ascends (sorted_by order xs) (Ascends-sorted_by xs)

  -- ---- the same elements

  IsPermutation-insert_by : (x : A) (xs : List A) → IsPermutation (x ∷ xs) (insert_by order x xs)
  IsPermutation-insert_by x [] = IsPermutation-refl (x ∷ [])
  IsPermutation-insert_by x (y ∷ xs) = by (is_lt (order x y)) (IsPermutation-insert_by x xs)
    where
      by : (b : Bool) → IsPermutation (x ∷ xs) (insert_by order x xs) → IsPermutation (x ∷ y ∷ xs) (cond b (x ∷ y ∷ xs) (y ∷ insert_by order x xs))
      by true p = IsPermutation-refl (x ∷ y ∷ xs)
      by false p =
          IsPermutation-trans (x ∷ y ∷ xs) (y ∷ x ∷ xs) (y ∷ insert_by order x xs)
          (IsPermutation-swap (x ∷ y ∷ xs) (y ∷ x ∷ xs) 0 1 (omega arith) (omega arith) refl)
          (IsPermutation-cons y (x ∷ xs) (insert_by order x xs) p)

  pub IsPermutation-sorted_by : (xs : List A) → IsPermutation xs (sorted_by order xs)
  IsPermutation-sorted_by [] = IsPermutation-refl []
  IsPermutation-sorted_by (x ∷ xs) =
      IsPermutation-trans (x ∷ xs) (x ∷ sorted_by order xs) (insert_by order x (sorted_by order xs))
      (IsPermutation-cons x xs (sorted_by order xs) (IsPermutation-sorted_by xs))
      (IsPermutation-insert_by x (sorted_by order xs))

  -- ---- no element twice

  module _ (ties : (x y : A) → order x y ≡ Equal → x ≡ y) where
    -- of two elements that aren't one, the one that isn't less is greater
    less_from : (x y : A) → y ≢ x → is_lt (order x y) ≡ false → order y x ≡ Less
    less_from x y other e = total.antisymm y x ∙ by (order x y) refl e
      where
        by : (o : Ordering) → order x y ≡ o → is_lt o ≡ false → ordering_reverse o ≡ Less
        by Less q e = absurd (true≢false e)
        by Equal q e = absurd (other (sym (ties x y q)))
        by Greater q e = refl

    less_from_test : (x y : A) → is_lt (order x y) ≡ true → order x y ≡ Less
    less_from_test x y e = by (order x y) e
      where
        by : (o : Ordering) → is_lt o ≡ true → o ≡ Less
        by Less e = refl
        by Equal e = absurd (false≢true e)
        by Greater e = absurd (false≢true e)

    Rises-insert_behind : (y x : A) (xs : List A) → Rises order (y ∷ xs) → IsNew x xs → order y x ≡ Less → Rises order (y ∷ insert_by order x xs)
    Rises-insert_behind y x [] h fresh e = (e, tt)
    Rises-insert_behind y x (z ∷ xs) h fresh e = by (is_lt (order x z)) refl (λ e'. Rises-insert_behind z x xs h.1 fresh.1 (less_from x z fresh.0 e'))
      where
        by : (b : Bool) → is_lt (order x z) ≡ b → (is_lt (order x z) ≡ false → Rises order (z ∷ insert_by order x xs))
            → Rises order (y ∷ cond b (x ∷ z ∷ xs) (z ∷ insert_by order x xs))
        by true e' behind = (e, (less_from_test x z e', h.1))
        by false e' behind = (h.0, behind e')

    pub Rises-insert_by : (x : A) (xs : List A) → Rises order xs → IsNew x xs → Rises order (insert_by order x xs)
    Rises-insert_by x [] h fresh = tt
    Rises-insert_by x (y ∷ xs) h fresh = by (is_lt (order x y)) refl
      where
        by : (b : Bool) → is_lt (order x y) ≡ b → Rises order (cond b (x ∷ y ∷ xs) (y ∷ insert_by order x xs))
        by true e = (less_from_test x y e, h)
        by false e = Rises-insert_behind y x xs h fresh.1 (less_from x y fresh.0 e)

    IsNew-insert_by : (z x : A) (xs : List A) → x ≢ z → IsNew z xs → IsNew z (insert_by order x xs)
    IsNew-insert_by z x [] other fresh = (other, tt)
    IsNew-insert_by z x (y ∷ xs) other fresh = by (is_lt (order x y)) (IsNew-insert_by z x xs other fresh.1)
      where
        by : (b : Bool) → IsNew z (insert_by order x xs) → IsNew z (cond b (x ∷ y ∷ xs) (y ∷ insert_by order x xs))
        by true rest = (other, fresh)
        by false rest = (fresh.0, rest)

    pub IsNew-sorted_by : (z : A) (xs : List A) → IsNew z xs → IsNew z (sorted_by order xs)
    IsNew-sorted_by z [] fresh = tt
    IsNew-sorted_by z (x ∷ xs) fresh = IsNew-insert_by z x (sorted_by order xs) fresh.0 (IsNew-sorted_by z xs fresh.1)

    -- what rises from one to the next rises altogether
    Less_than_all : (x y : A) (ys : List A) → order x y ≡ Less → Rises order (y ∷ ys) → AllByRecursion (λ z. order x z ≡ Less) (y ∷ ys)
    Less_than_all x y [] e h = (e, tt)
    Less_than_all x y (z ∷ ys) e h = (e, Less_than_all x z ys (total.trans x y z e h.0) h.1)

    pub IsStrictlySorted-Rises : (xs : List A) → Rises order xs → IsStrictlySortedBy order xs
    unfolding IsStrictlySortedBy
    IsStrictlySorted-Rises [] h = tt
    IsStrictlySorted-Rises (x ∷ []) h = (tt, tt)
    IsStrictlySorted-Rises (x ∷ y ∷ ys) h = (Less_than_all x y ys h.0 h.1, IsStrictlySorted-Rises (y ∷ ys) h.1)

    -- ---- the only such list

    not_less_from : (x y z : A) → order x y ≡ Less → is_lt (order z y) ≡ false → order x z ≡ Less
    not_less_from x y z e h = by (order z y) refl h
      where
        by : (o : Ordering) → order z y ≡ o → is_lt o ≡ false → order x z ≡ Less
        by Less q h = absurd (true≢false h)
        by Equal q h = ap (order x) (ties z y q) ∙ e
        by Greater q h = total.trans x y z e (total.antisymm y z ∙ ap ordering_reverse q)

    -- what is less than the first is none of the elements
    none_tie : (x y : A) (ys : List A) → order x y ≡ Less → Ascends order (y ∷ ys) → count_by (λ z. is_eq (order x z)) (y ∷ ys) ≡ 0
    none_tie x y [] e h = ap (λ o. 0 + cond (is_eq o) 1 0) e
    none_tie x y (z ∷ ys) e h =
        let rest = none_tie x z ys (not_less_from x y z e h.0) h.1 in
        let here : ◌≡◌ {A = ℕ} (cond (is_eq (order x y)) 1 0) 0 = ap (λ o. cond (is_eq o) 1 0) e in
        omega (arith, rest, here, sum_by-cons (λ w. cond (is_eq (order x w)) 1 0) y (z ∷ ys))

    ties_itself : (x : A) → order x x ≡ Equal
    ties_itself x = by (order x x) (total.antisymm x x)
      where
        by : (o : Ordering) → o ≡ ordering_reverse o → o ≡ Equal
        by Less e = cc (e)
        by Equal e = refl
        by Greater e = cc (e)

    one_ties : (x : A) (xs : List A) → 0 < count_by (λ z. is_eq (order x z)) (x ∷ xs)
    one_ties x xs =
        let here : ◌≡◌ {A = ℕ} (cond (is_eq (order x x)) 1 0) 1 = ap (λ o. cond (is_eq o) 1 0) (ties_itself x) in
        omega (arith, here, sum_by-cons (λ w. cond (is_eq (order x w)) 1 0) x xs)

    only_sorted : (xs ys : List A) → Ascends order xs → Ascends order ys → ((test : A → Bool) → count_by test xs ≡ count_by test ys) → xs ≡ ys
    only_sorted [] [] h g alike = refl
    only_sorted [] (y ∷ ys) h g alike = let e = alike (λ z. true) in absurd (omega (arith, e, sum_by-cons (λ (z : A). 1) y ys))
    only_sorted (x ∷ xs) [] h g alike = let e = alike (λ z. true) in absurd (omega (arith, e, sum_by-cons (λ (z : A). 1) x xs))
    only_sorted (x ∷ xs) (y ∷ ys) h g alike =
        by (order x y) refl (λ same. only_sorted xs ys (Ascends-tail x xs h) (Ascends-tail y ys g) (λ test.
        let all = alike test in
        let first : ◌≡◌ {A = ℕ} (cond (test x) 1 0) (cond (test y) 1 0) = ap (λ z. cond (test z) 1 0) same in
        omega (arith, all, first, sum_by-cons (λ z. cond (test z) 1 0) x xs, sum_by-cons (λ z. cond (test z) 1 0) y ys)))
      where
        by : (o : Ordering) → order x y ≡ o → (x ≡ y → xs ≡ ys) → x ∷ xs ≡ y ∷ ys
        by Less q rest =
            let none = none_tie x y ys q g in
            let one = one_ties x xs in
            let e = alike (λ z. is_eq (order x z)) in
            absurd (omega (arith, none, one, e))
        by Equal q rest = let same = ties x y q in λ i. same i ∷ rest same i
        by Greater q rest =
            let none = none_tie y x xs (total.antisymm y x ∙ ap ordering_reverse q) h in
            let one = one_ties y ys in
            let e = alike (λ z. is_eq (order y z)) in
            absurd (omega (arith, none, one, e))

    -- a list in order, of the same elements, is the one that sorted_by gives
    pub sorted_by-only : (xs ys : List A) → IsPermutation xs ys → IsSorted order ys → ys ≡ sorted_by order xs
    sorted_by-only xs ys moved sorted =
        only_sorted ys (sorted_by order xs) (Ascends-IsSorted ys sorted) (Ascends-sorted_by xs) (λ test.
        sum_by-IsPermutation (λ x. cond (test x) 1 0) xs ys moved
        ∙ sym (sum_by-IsPermutation (λ x. cond (test x) 1 0) xs (sorted_by order xs) (IsPermutation-sorted_by xs)))
