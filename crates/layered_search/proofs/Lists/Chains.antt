-- Chains of places with one fingerprint: how they grow, and what is passed when one is gone along.
use Rattle.std.specs.Prelude.{◌≡◌, ◌<◌, ◌≤◌, ◌⊎◌, ℕ, ◌+◌, suc, List, [], ◌∷◌, ◌++◌, Bool, true, false, cond, length, nat_eq, Option, Some, None, IfSome, slice_get, refl}
use Rattle.std.proofs.Common.{sym, ap, ◌∙◌, subst, ⊎_elim, arith, eqb-true, eq-eqb, get_or, length-append}
use Rattle.std.proofs.lemmas.Bool.{true≢false, cases_lt}
use Rattle.std.proofs.lemmas.Option.{slice_get_read, slice_get_within}
use Rattle.layered_search.specs.Chained.{IsLastBelow, AreChained}
use Rattle.layered_search.proofs.Places.{within_some, get_push, get_left, get_last}

-- ---- a longer list

module _ (prints : List ℕ) (own : ℕ) where
  -- a place below the end has what it had
  was_at : (k n print : ℕ) → k < n → n ≤ length prints → slice_get (prints ++ own ∷ []) k ≡ Some print
      → slice_get prints k ≡ Some print
  was_at k n print lt le there =
      ⊎_elim (λ was. was) (λ last. absurd (omega (arith, lt, le, last.0))) (get_push prints own k print there)

  last_stays : (n print : ℕ) (o : Option ℕ) → n ≤ length prints → IsLastBelow prints n print o
      → IsLastBelow (prints ++ own ∷ []) n print o
  last_stays n print None le is = λ k lt there. is k lt (was_at k n print lt le there)
  last_stays n print (Some at) le is = record {
    below = is.below;
    there = get_left prints own at print is.there;
    last = λ k after lt there. is.last k after lt (was_at k n print lt le there);
  }

  -- another fingerprint's last place stays
  other_last : (print : ℕ) (o : Option ℕ) → (own ≡ print → ⊥) → IsLastBelow prints (length prints) print o
      → IsLastBelow (prints ++ own ∷ []) (length (prints ++ own ∷ [])) print o
  other_last print None apart is = λ k lt there. ⊎_elim (λ was. is k (slice_get_within prints k print was) was)
      (λ last. apart (sym last.1)) (get_push prints own k print there)
  other_last print (Some at) apart is = record {
    below = slice_get_within (prints ++ own ∷ []) at print (get_left prints own at print is.there);
    there = get_left prints own at print is.there;
    last = λ k after lt there. ⊎_elim (λ was. is.last k after (slice_get_within prints k print was) was)
        (λ last. apart (sym last.1)) (get_push prints own k print there);
  }

  -- its own is the new one
  own_last : (print : ℕ) → own ≡ print
      → IsLastBelow (prints ++ own ∷ []) (length (prints ++ own ∷ [])) print (Some (length prints))
  own_last print e = record {
    below = omega (arith, length-append prints (own ∷ []));
    there = get_last prints own ∙ ap Some e;
    last = λ k after lt there. ⊎_elim (λ was. absurd (omega (arith, after, slice_get_within prints k print was)))
        (λ last. absurd (omega (arith, after, last.0))) (get_push prints own k print there);
  }

-- ---- a table

-- with one place more
pub more_chained : (prints : List ℕ) (befores : List (Option ℕ)) (last last' : ℕ → Option ℕ) (own : ℕ)
    (before : Option ℕ)
    → AreChained prints befores last → IsLastBelow prints (length prints) own before
    → ((print : ℕ) → last' print ≡ cond (nat_eq own print) (Some (length prints)) (last print))
    → AreChained (prints ++ own ∷ []) (befores ++ before ∷ []) last'
more_chained prints befores last last' own before are is moved = record {
  many = length-append befores (before ∷ []) ∙ (ap (λ (n : ℕ). n + 1) are.many ∙ sym (length-append prints (own ∷ [])));
  lasts = λ print. subst (λ (o : Option ℕ). IsLastBelow (prints ++ own ∷ []) (length (prints ++ own ∷ [])) print o)
      (sym (moved print)) (by print (nat_eq own print) refl);
  chains = λ at print b there was. ⊎_elim (λ old. early at print b old was) (λ new. late at print b new.0 new.1 was)
      (get_push prints own at print there);
}
  where
    by : (print : ℕ) (b : Bool) → nat_eq own print ≡ b
        → IsLastBelow (prints ++ own ∷ []) (length (prints ++ own ∷ [])) print
        (cond b (Some (length prints)) (last print))
    by print true e = own_last prints own print (eqb-true own print e)
    by print false e = other_last prints own print (last print) (λ same. true≢false (sym (eq-eqb own print same) ∙ e))
        (are.lasts print)

    early : (at print : ℕ) (b : Option ℕ) → slice_get prints at ≡ Some print
        → slice_get (befores ++ before ∷ []) at ≡ Some b → IsLastBelow (prints ++ own ∷ []) at print b
    early at print b there was =
        let lt : at < length prints = slice_get_within prints at print there in
        let many = are.many in
        last_stays prints own at print b (omega (arith, lt))
        (are.chains at print b there (⊎_elim (λ old. old) (λ new. absurd (omega (arith, lt, many, new.0)))
        (get_push befores before at b was)))

    late : (at print : ℕ) (b : Option ℕ) → at ≡ length prints → print ≡ own
        → slice_get (befores ++ before ∷ []) at ≡ Some b → IsLastBelow (prints ++ own ∷ []) at print b
    late at print b here same was =
        let many = are.many in
        let e : b ≡ before = ⊎_elim (λ old. absurd (omega (arith, here, many, slice_get_within befores at b old)))
        (λ new. new.1) (get_push befores before at b was) in
        let own_before : IsLastBelow (prints ++ own ∷ []) (length prints) own before =
        last_stays prints own (length prints) own before (omega arith) is in
        subst (λ (n : ℕ). IsLastBelow (prints ++ own ∷ []) n print b) (sym here)
        (subst (λ (p : ℕ). IsLastBelow (prints ++ own ∷ []) (length prints) p b) (sym same)
        (subst (λ (o : Option ℕ). IsLastBelow (prints ++ own ∷ []) (length prints) own o) (sym e) own_before))

-- the place before one, as it is read, is below it
pub before_below : (prints : List ℕ) (befores : List (Option ℕ)) (last : ℕ → Option ℕ) (at : ℕ)
    (read : List (Option ℕ)) (before : Option ℕ)
    → AreChained prints befores last → read ≡ befores → at < length read → before ≡ get_or read at before
    → IfSome before (λ k. k < at)
before_below prints befores last at read before are same lt is = by before (are.chains at print.0 before print.1 there)
  where
    there : slice_get befores at ≡ Some before
    there = ap (λ (bs : List (Option ℕ)). slice_get bs at) (sym same)
        ∙ slice_get_read read (length read) at before refl lt is

    print : (p : ℕ) × (slice_get prints at ≡ Some p)
    print =
        let many = are.many in
        within_some prints at (omega (arith, lt, ap length same))

    by : (o : Option ℕ) → IsLastBelow prints at print.0 o → IfSome o (λ k. k < at)
    by None is = tt
    by (Some k) is = is.below

-- ---- along a chain

-- how many places are not after that one
abbrev pub up_to : Option ℕ → ℕ
up_to None = 0
up_to (Some at) = suc at

-- the chain of that fingerprint is gone along to that place: none of the places after it, of that fingerprint, has P
pub record IsAlong (prints : List ℕ) (print : ℕ) (P : ℕ → Type 0) (place : Option ℕ) : Type 0 where
  pub on : IfSome place (λ at. slice_get prints at ≡ Some print)
  pub past : (at : ℕ) → up_to place ≤ at → slice_get prints at ≡ Some print → P at → ⊥

after_or_at : (k at : ℕ) → k ≤ at → (suc k ≤ at) ⊎ (k ≡ at)
after_or_at k at le = grind arith

module _ (prints : List ℕ) (print : ℕ) (P : ℕ → Type 0) where
  pub begins_along : (o : Option ℕ) → IsLastBelow prints (length prints) print o → IsAlong prints print P o
  begins_along None is = record {
    on = tt;
    past = λ at le there p. is at (slice_get_within prints at print there) there;
  }
  begins_along (Some k) is = record {
    on = is.there;
    past = λ at le there p. is.last at (omega (arith, le)) (slice_get_within prints at print there) there;
  }

  from_on : (k : ℕ) → IsAlong prints print P (Some k) → (P k → ⊥) → (at : ℕ) → k ≤ at
      → slice_get prints at ≡ Some print → P at → ⊥
  from_on k along none at le there p =
      ⊎_elim (λ after. along.past at after there p) (λ e. none (subst P (sym e) p)) (after_or_at k at le)

  pub goes_along : (k : ℕ) (o : Option ℕ) → IsAlong prints print P (Some k) → (P k → ⊥)
      → ((p : ℕ) → slice_get prints k ≡ Some p → IsLastBelow prints k p o) → IsAlong prints print P o
  goes_along k o along none before = by o (before print along.on)
    where
      by : (o : Option ℕ) → IsLastBelow prints k print o → IsAlong prints print P o
      by None is = record {
        on = tt;
        past = λ at le there p. ⊎_elim (λ lt. is at lt there) (λ from. from_on k along none at from there p)
            (cases_lt at k);
      }
      by (Some m) is = record {
        on = is.there;
        past = λ at le there p. ⊎_elim (λ lt. is.last at (omega (arith, le)) lt there)
            (λ from. from_on k along none at from there p) (cases_lt at k);
      }

  pub gone_along : IsAlong prints print P None → (at : ℕ) → slice_get prints at ≡ Some print → P at → ⊥
  gone_along along at there p = along.past at (omega arith) there p

-- and fewer places are left
pub fewer_left : (place o : Option ℕ) (at : ℕ) → place ≡ Some at → IfSome o (λ k. k < at) → up_to o < up_to place
fewer_left place o at is below = subst (λ (p : Option ℕ). up_to o < up_to p) (sym is) (by o below)
  where
    by : (o : Option ℕ) → IfSome o (λ k. k < at) → up_to o < suc at
    by None below = omega arith
    by (Some k) below = omega (arith, below)
