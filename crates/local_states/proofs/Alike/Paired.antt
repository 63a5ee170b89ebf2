-- Handles paired place by place, and what gives a pair one number.
use Rattle.std.specs.Prelude.{◌≡◌, ◌<◌, ◌⊎◌, ℕ, zero, suc, ◌==◌, ◌&&◌, ◌||◌, List, [], ◌∷◌, Bool, true, false, length, Some, refl, if◌then◌else◌}
use Rattle.std.proofs.Math.Bool.{or-true}
use Rattle.std.proofs.Common.{inl, inr, sym, ap, ◌∙◌, subst, ⊎_elim, arith, eq-eqb, eqb-true}
use Rattle.std.proofs.lemmas.Option.{same_Some, none-some}
use Rattle.std.proofs.lemmas.Bool.{true≢false, false≢true, or_cases, and_parts}
use Rattle.race_core.specs.declared.seat.Seat.{Seat}
use Rattle.race_core.specs.Renamed.{numbers_by, seat_handles, LikeSeats}
use Rattle.root_ops.proofs.HandlesRenamed.{same_long}
use Rattle.local_states.specs.Alike.{Pairs, Agree}
use Rattle.local_states.specs.Paired.{pairs_of, AreAt, AreApart}
use Rattle.local_states.proofs.Alike.HandlesRenamed.{seat_numbers}

pub same_numbers : (s t : Seat) → LikeSeats s t → length (seat_handles s) ≡ length (seat_handles t)
same_numbers s t like =
    same_long (seat_handles s) (seat_handles t)
    (sym (seat_numbers (λ h. 0) s) ∙ (ap (λ (seat : Seat). seat_handles seat) like ∙ seat_numbers (λ h. 0) t))

-- ---- pairs by their places

own_pair : (h k : ℕ) (b : Bool) → ((h == h) && (k == k)) || b ≡ true
own_pair h k b = ap (λ c. (c && (k == k)) || b) (eq-eqb h h refl) ∙ ap (λ c. c || b) (eq-eqb k k refl)

pub at_pair : (hs ks : List ℕ) (h k : ℕ) → pairs_of hs ks h k ≡ true → (at : ℕ) × AreAt hs ks at h k
at_pair [] ks h k e = absurd (false≢true e)
at_pair (i ∷ hs) [] h k e = absurd (false≢true e)
at_pair (i ∷ hs) (j ∷ ks) h k e =
    ⊎_elim first (λ p. later (at_pair hs ks h k p)) (or_cases ((i == h) && (j == k)) (pairs_of hs ks h k) e)
  where
    first : (i == h) && (j == k) ≡ true → (at : ℕ) × AreAt (i ∷ hs) (j ∷ ks) at h k
    first p = let two = and_parts (i == h) (j == k) p in
        (0, record { here = ap Some (eqb-true i h two.0); there = ap Some (eqb-true j k two.1) })

    later : (at : ℕ) × AreAt hs ks at h k → (at : ℕ) × AreAt (i ∷ hs) (j ∷ ks) at h k
    later there = (suc there.0, record { here = there.1.here; there = there.1.there })

-- handles that are paired place by place get the same numbers where pairs do
pub agree_all : (f g : ℕ → ℕ) (hs ks : List ℕ) → length hs ≡ length ks
    → ((h k : ℕ) → pairs_of hs ks h k ≡ true → f h ≡ g k) → numbers_by f hs ≡ numbers_by g ks
agree_all f g [] [] same agree = refl
agree_all f g [] (k ∷ ks) same agree = absurd (omega (arith, same))
agree_all f g (h ∷ hs) [] same agree = absurd (omega (arith, same))
agree_all f g (h ∷ hs) (k ∷ ks) same agree =
    let one = agree h k (own_pair h k (pairs_of hs ks h k)) in
    let n : length hs ≡ length ks = omega (arith, same) in
    let rest = agree_all f g hs ks n
    (λ i j p. agree i j (ap (λ c. ((h == i) && (k == j)) || c) p ∙ or-true ((h == i) && (k == j)))) in
    λ i. one i ∷ rest i

pub below_or : (m n : ℕ) → (m < n) ⊎ ((m ≡ n) ⊎ (n < m))
below_or zero zero = inr (inl refl)
below_or zero (suc n) = inl (omega arith)
below_or (suc m) zero = inr (inr (omega arith))
below_or (suc m) (suc n) =
    ⊎_elim (λ lt. inl (omega arith)) (λ or. ⊎_elim (λ e. inr (inl (ap suc e))) (λ lt. inr (inr (omega arith))) or)
    (below_or m n)

-- ---- one number for each pair

pub same_at : (f g : ℕ → ℕ) (hs ks : List ℕ) (at h k : ℕ) → numbers_by f hs ≡ numbers_by g ks → AreAt hs ks at h k
    → f h ≡ g k
same_at f g [] ks at h k e are = absurd (none-some _ are.here)
same_at f g (i ∷ hs) [] at h k e are = absurd (none-some _ are.there)
same_at f g (i ∷ hs) (j ∷ ks) zero h k e are =
    let q : f i ≡ g j = cc in
    ap f (sym (same_Some _ _ are.here)) ∙ (q ∙ ap g (same_Some _ _ are.there))
same_at f g (i ∷ hs) (j ∷ ks) (suc at) h k e are =
    let q : numbers_by f hs ≡ numbers_by g ks = cc in
    same_at f g hs ks at h k q (record { here = are.here; there = are.there })

-- one number for what is paired with k, and for k
abbrev pub mark : Bool → ℕ
mark b = if b then 1 else 0

pub separates : (pairs : Pairs) (k : ℕ) → ((h i j l : ℕ) → pairs h i ≡ true → pairs j l ≡ true → AreApart h i j l)
    → Agree pairs (λ x. mark (pairs x k)) (λ y. mark (y == k))
separates pairs k apart x y p = by (pairs x k) (y == k) refl refl
  where
    by : (b c : Bool) → pairs x k ≡ b → (y == k) ≡ c → mark (pairs x k) ≡ mark (y == k)
    by true true e q = ap mark e ∙ sym (ap mark q)
    by false false e q = ap mark e ∙ sym (ap mark q)
    by true false e q = absurd (true≢false (sym (eq-eqb y k ((apart x y x k p e).0 refl)) ∙ q))
    by false true e q = absurd (false≢true (sym e ∙ subst (λ z. pairs x z ≡ true) (eqb-true y k q) p))

pub marked : (b : Bool) → mark b ≡ 1 → b ≡ true
marked true e = refl
marked false e = absurd (omega (arith, e))
