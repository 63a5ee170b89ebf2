-- Lists put in order: a list in order that keeps the order of what ties is the only one.
use Rattle.std.proofs.Common.{◌≡◌, ◌+◌, suc, Bool, true, false, not, ◌&&◌, List, [], ◌∷◌, get_or, refl, sym, ap, ◌∙◌, subst, arith}
use Rattle.std.specs.Prelude.{filter, if◌then◌else◌, cond}
use Rattle.std.specs.List.{AllByRecursion}
use Rattle.std.specs.List.Sorted.{IsSortedBy, IsStableBy, ties}
use Rattle.std.proofs.lemmas.Bool.{false≢true, true≢false}

module _ {X : Type 0} (before : X → X → Bool) where
  abbrev pub less : X → X → Bool
  less x y = not (before y x)

  abbrev pub put_in : X → List X → List X
  put_in x [] = x ∷ []
  put_in x (y ∷ ys) = if before x y then x ∷ y ∷ ys else y ∷ put_in x ys

  abbrev pub all_in : List X → List X
  all_in [] = []
  all_in (x ∷ xs) = put_in x (all_in xs)

  -- each element comes before all that follow
  abbrev pub Ascends : List X → Type 0
  Ascends [] = Unit {0}
  Ascends (x ∷ xs) = AllByRecursion (λ y. before x y ≡ true) xs × Ascends xs

  -- two that tie come before each other
  ties_both : (x y : X) → ties less x y ≡ true → (before x y ≡ true) × (before y x ≡ true)
  ties_both x y e = by (before x y) (before y x) refl refl e
    where
      by : (b c : Bool) → before x y ≡ b → before y x ≡ c → (not (not c) && not (not b)) ≡ true → (before x y ≡ true) × (before y x ≡ true)
      by true true p q e = (p, q)
      by true false p q e = absurd (false≢true e)
      by false true p q e = absurd (false≢true e)
      by false false p q e = absurd (false≢true e)

  both_tie : (x y : X) → before x y ≡ true → before y x ≡ true → ties less x y ≡ true
  both_tie x y p q = λ i. not (not (q i)) && not (not (p i))

  module _ (total : (x y : X) → before x y ≡ false → before y x ≡ true)
      (chain : (x y z : X) → before x y ≡ true → before y z ≡ true → before x z ≡ true) where
    itself : (x : X) → before x x ≡ true
    itself x = by (before x x) refl
      where
        by : (b : Bool) → before x x ≡ b → before x x ≡ true
        by true e = e
        by false e = total x x e

    -- ---- what is put in its place

    -- neighbours that don't both pass may change places
    swapped : (y t : X) (rest : List X) (b c : Bool) → (b ≡ true → c ≡ true → ⊥)
        → cond b (y ∷ cond c (t ∷ rest) rest) (cond c (t ∷ rest) rest) ≡ cond c (t ∷ cond b (y ∷ rest) rest) (cond b (y ∷ rest) rest)
    swapped y t rest true true never = absurd (never refl refl)
    swapped y t rest true false never = refl
    swapped y t rest false true never = refl
    swapped y t rest false false never = refl

    apart : (x t y : X) (xs : List X) → before t y ≡ false → filter (ties less x) (y ∷ t ∷ xs) ≡ filter (ties less x) (t ∷ y ∷ xs)
    apart x t y xs e =
        swapped y t (filter (ties less x) xs) (ties less x y) (ties less x t)
        (λ p q. true≢false (sym (chain t x y (ties_both x t q).1 (ties_both x y p).0) ∙ e))

    stable_put : (x t : X) (xs : List X) → filter (ties less x) (put_in t xs) ≡ filter (ties less x) (t ∷ xs)
    stable_put x t [] = refl
    stable_put x t (y ∷ xs) = by (before t y) refl (stable_put x t xs)
      where
        by : (b : Bool) → before t y ≡ b → filter (ties less x) (put_in t xs) ≡ filter (ties less x) (t ∷ xs)
            → filter (ties less x) (if b then t ∷ y ∷ xs else y ∷ put_in t xs) ≡ filter (ties less x) (t ∷ y ∷ xs)
        by true e rest = refl
        by false e rest = ap (λ (l : List X). cond (ties less x y) (y ∷ l) l) rest ∙ apart x t y xs e

    stable_all : (x : X) (xs : List X) → filter (ties less x) (all_in xs) ≡ filter (ties less x) xs
    stable_all x [] = refl
    stable_all x (t ∷ xs) = stable_put x t (all_in xs) ∙ ap (λ (l : List X). cond (ties less x t) (t ∷ l) l) (stable_all x xs)

    all_before_put : (x t : X) (xs : List X) → before x t ≡ true → AllByRecursion (λ y. before x y ≡ true) xs → AllByRecursion (λ y. before x y ≡ true) (put_in t xs)
    all_before_put x t [] e h = (e, tt)
    all_before_put x t (y ∷ xs) e h = by (before t y) (all_before_put x t xs e h.1)
      where
        by : (b : Bool) → AllByRecursion (λ y. before x y ≡ true) (put_in t xs) → AllByRecursion (λ y. before x y ≡ true) (if b then t ∷ y ∷ xs else y ∷ put_in t xs)
        by true rest = (e, h)
        by false rest = (h.0, rest)

    before_all : (x y : X) (xs : List X) → before x y ≡ true → AllByRecursion (λ z. before y z ≡ true) xs → AllByRecursion (λ z. before x z ≡ true) xs
    before_all x y [] e h = tt
    before_all x y (z ∷ xs) e h = (chain x y z e h.0, before_all x y xs e h.1)

    Ascends-put : (t : X) (xs : List X) → Ascends xs → Ascends (put_in t xs)
    Ascends-put t [] h = (tt, tt)
    Ascends-put t (y ∷ xs) h = by (before t y) refl (Ascends-put t xs h.1)
      where
        by : (b : Bool) → before t y ≡ b → Ascends (put_in t xs) → Ascends (if b then t ∷ y ∷ xs else y ∷ put_in t xs)
        by true e rest = ((e, before_all t y xs e h.0), h)
        by false e rest = (all_before_put y t xs (total t y e) h.0, rest)

    Ascends-all : (xs : List X) → Ascends (all_in xs)
    Ascends-all [] = tt
    Ascends-all (x ∷ xs) = Ascends-put x (all_in xs) (Ascends-all xs)

    -- ---- the only such list

    -- what comes before the first, and not after it, ties with none
    none_tie : (x y : X) (ys : List X) → before y x ≡ false → AllByRecursion (λ z. before y z ≡ true) ys → filter (ties less x) ys ≡ []
    none_tie x y [] e h = refl
    none_tie x y (z ∷ ys) e h = by (ties less x z) refl (none_tie x y ys e h.1)
      where
        by : (b : Bool) → ties less x z ≡ b → filter (ties less x) ys ≡ [] → cond (ties less x z) (z ∷ filter (ties less x) ys) (filter (ties less x) ys) ≡ []
        by true q rest = absurd (true≢false (sym (chain y z x h.0 (ties_both x z q).1) ∙ e))
        by false q rest = ap (λ (b : Bool). cond b (z ∷ filter (ties less x) ys) (filter (ties less x) ys)) q ∙ rest

    first_ties : (x : X) (xs : List X) → filter (ties less x) (x ∷ xs) ≡ x ∷ filter (ties less x) xs
    first_ties x xs = ap (λ (b : Bool). cond b (x ∷ filter (ties less x) xs) (filter (ties less x) xs)) (both_tie x x (itself x) (itself x))

    abbrev AreAlike : List X → List X → Type 0
    AreAlike xs ys = (x : X) → filter (ties less x) xs ≡ filter (ties less x) ys

    not_below : (x y : X) (xs ys : List X) → Ascends (y ∷ ys) → AreAlike (x ∷ xs) (y ∷ ys) → before y x ≡ true
    not_below x y xs ys up alike = by (before y x) refl
      where
        by : (b : Bool) → before y x ≡ b → before y x ≡ true
        by true e = e
        by false e = cc (sym (first_ties x xs) ∙ alike x ∙ none_tie x y (y ∷ ys) e (itself y, up.0))

    same_first : (x y : X) (xs ys : List X) → before x y ≡ true → before y x ≡ true → AreAlike (x ∷ xs) (y ∷ ys) → (x ≡ y) × (filter (ties less x) xs ≡ filter (ties less x) ys)
    same_first x y xs ys p q alike =
        let e : x ∷ filter (ties less x) xs ≡ y ∷ filter (ties less x) ys =
        sym (first_ties x xs) ∙ alike x ∙ ap (λ (b : Bool). cond b (y ∷ filter (ties less x) ys) (filter (ties less x) ys)) (both_tie x y p q) in (cc e, cc e)

    alike_rest : (x : X) (xs ys : List X) → AreAlike (x ∷ xs) (x ∷ ys) → AreAlike xs ys
    alike_rest x xs ys alike z = by (ties less z x) (alike z)
      where
        by : (b : Bool) → cond b (x ∷ filter (ties less z) xs) (filter (ties less z) xs) ≡ cond b (x ∷ filter (ties less z) ys) (filter (ties less z) ys)
            → filter (ties less z) xs ≡ filter (ties less z) ys
        by true e = cc e
        by false e = e

    only : (xs ys : List X) → Ascends xs → Ascends ys → AreAlike xs ys → xs ≡ ys
    only [] [] up high alike = refl
    only [] (y ∷ ys) up high alike = cc (alike y ∙ first_ties y ys)
    only (x ∷ xs) [] up high alike = cc (sym (first_ties x xs) ∙ alike x)
    only (x ∷ xs) (y ∷ ys) up high alike =
        let q : before y x ≡ true = not_below x y xs ys high alike in
        let p : before x y ≡ true = not_below y x ys xs up (λ z. sym (alike z)) in
        let same : x ≡ y = (same_first x y xs ys p q alike).0 in
        let rest : xs ≡ ys = only xs ys up.1 high.1 (alike_rest x xs ys (λ z. alike z ∙ ap (λ (w : X). filter (ties less z) (w ∷ ys)) (sym same))) in
        λ i. same i ∷ rest i

    -- ---- what a sort gives

    Ascends-sorted : (xs : List X) → IsSortedBy less xs → Ascends xs
    Ascends-sorted [] h = tt
    Ascends-sorted (x ∷ []) h = (tt, tt)
    Ascends-sorted (x ∷ y ∷ xs) h =
        let rest : Ascends (y ∷ xs) = Ascends-sorted (y ∷ xs) (λ k d low high.
        let next : suc k + 1 ≡ suc (k + 1) = omega arith in
        subst (λ i. less (get_or (x ∷ y ∷ xs) i d) (get_or (y ∷ xs) k d) ≡ false) next (h (suc k) d (omega arith) (omega arith))) in
        let first : before x y ≡ true = by (before x y) (h 0 x (omega arith) (omega arith)) in ((first, before_all x y xs first rest.0), rest)
      where
        by : (b : Bool) → not b ≡ false → b ≡ true
        by true e = refl
        by false e = absurd (true≢false e)

    pub sorted_is_all_in : (xs ys : List X) → IsSortedBy less ys → IsStableBy less xs ys → ys ≡ all_in xs
    sorted_is_all_in xs ys sorted stable = only ys (all_in xs) (Ascends-sorted ys sorted) (Ascends-all xs) (λ x. stable x ∙ sym (stable_all x xs))
