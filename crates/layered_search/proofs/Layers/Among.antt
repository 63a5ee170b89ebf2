-- The states of a layer of which no two count as one.
use Rattle.std.specs.Prelude.{◌≡◌, ◌≤◌, ◌+◌, ℕ, zero, suc, List, [], ◌∷◌, ◌++◌, Bool, true, false, length, drop, Some, slice_get, refl}
use Rattle.std.proofs.Common.{⊎_elim, sym, ap, ◌∙◌, subst, cond, arith, length-append}
use Rattle.std.proofs.lemmas.Option.{same_Some, none-some}
use Rattle.layered_search.specs.declared.frontier.layer.Visited.{Visited}
use Rattle.layered_search.specs.System.{System, Keys, AreKeys}
use Rattle.layered_search.specs.Distinct.{Keeps}
use Rattle.layered_search.specs.Marked.{IsNew, AreMarked}
use Rattle.layered_search.specs.States.{AreStatesAmong}
use Rattle.layered_search.proofs.Layers.Markings.{count_new, states as states_in, states_are}
use Rattle.layered_search.proofs.Places.{at_or_below, get_push, get_left, get_last, within_some}

-- ---- lists

pub plus_suc : (n k : ℕ) → suc n + k ≡ suc (n + k)
plus_suc n k = omega arith

get_drop : {A : Type 0} (xs : List A) (n k : ℕ) → slice_get (drop n xs) k ≡ slice_get xs (n + k)
get_drop xs zero k = ap (slice_get xs) (omega arith)
get_drop [] (suc n) k = refl
get_drop (x ∷ xs) (suc n) k = get_drop xs n k ∙ sym (ap (slice_get (x ∷ xs)) (plus_suc n k))

drop_long : {A : Type 0} (xs : List A) (n : ℕ) → n ≤ length xs → n + length (drop n xs) ≡ length xs
drop_long xs zero le = omega arith
drop_long [] (suc n) le = absurd (omega arith)
drop_long (x ∷ xs) (suc n) le = let rest = drop_long xs n (omega arith) in omega (arith, rest)

-- what is kept has its places
keeps_long : {A : Type 0} (xs ys : List A) → Keeps xs ys → length xs ≤ length ys
keeps_long [] ys keeps = omega arith
keeps_long (x ∷ xs) [] keeps = absurd (none-some x (keeps 0 x refl))
keeps_long (x ∷ xs) (y ∷ ys) keeps = let rest = keeps_long xs ys (λ k z e. keeps (suc k) z e) in omega (arith, rest)

one_more : (b : Bool) (m n : ℕ) → (m + cond b 1 0) + n ≡ m + cond b (1 + n) n
one_more true m n = omega arith
one_more false m n = omega arith

-- ---- the states among the first ones

module _ {State Memory Key : Type 0} (s : System State) (k : Keys State Memory Key) (laws : AreKeys s k) where
  -- none of none
  pub among_none : (all_visited : List (Visited Key)) → AreStatesAmong s k all_visited 0 0
  among_none all_visited = record {
    chosen = [];
    many = refl;
    few = omega arith;
    from = λ j one e. absurd (none-some one e);
    apart = λ i j one other e. absurd (none-some one e);
    all = λ m one lt. absurd (omega (arith, lt));
  }

  -- more states were put after them
  pub among_more : (old new : List (Visited Key)) (n states : ℕ) → Keeps old new → n ≤ length old
      → AreStatesAmong s k old n states → AreStatesAmong s k new n states
  among_more old new n states keeps le are = record {
    chosen = are.chosen;
    many = are.many;
    few = are.few;
    from = λ j one e. let was = are.from j one e in (was.0, (was.1.0, keeps was.0 one was.1.1));
    apart = are.apart;
    all = λ m visited lt e.
        let was = within_some old m (omega (arith, lt, le)) in
        let same : was.0 ≡ visited = same_Some was.0 visited (sym (keeps m was.0 was.1) ∙ e) in
        are.all m visited lt (was.1 ∙ ap Some same);
  }

  module _ (all_visited : List (Visited Key)) (n states : ℕ) (visited : Visited Key)
      (here : slice_get all_visited n ≡ Some visited) (are : AreStatesAmong s k all_visited n states) where
    -- it is no state of its own
    among_old : IsNew k false all_visited n visited.key → AreStatesAmong s k all_visited (suc n) states
    among_old found = record {
      chosen = are.chosen;
      many = are.many;
      few = let le = are.few in omega arith;
      from = λ j one e. let was = are.from j one e in let lt = was.1.0 in (was.0, (omega (arith, lt), was.1.1));
      apart = are.apart;
      all = λ m x lt e. ⊎_elim (λ less. are.all m x less e)
          (λ last. own x (sym here ∙ (ap (slice_get all_visited) (sym last) ∙ e)))
          (at_or_below m n (omega (arith, lt)));
    }
      where
        own : (x : Visited Key) → Some visited ≡ Some x
            → (j : ℕ) × ((one : Visited Key) × ((slice_get are.chosen j ≡ Some one) × k.CountAsOne x.key one.key))
        own x e =
            let same : visited ≡ x = same_Some visited x e in
            let its = are.all found.0 found.1.1.0 found.1.0 found.1.1.1.0 in (
              its.0,
              (
                its.1.0,
                (
                  its.1.1.0,
                  laws.one_on x.key found.1.1.0.key its.1.0.key
                      (subst (λ (l : Visited Key). k.CountAsOne l.key found.1.1.0.key) same found.1.1.1.1) its.1.1.1,
                ),
              ),
            )

    -- it is one
    among_new : IsNew k true all_visited n visited.key → AreStatesAmong s k all_visited (suc n) (suc states)
    among_new none = record {
      chosen = are.chosen ++ visited ∷ [];
      many = let e = length-append are.chosen (visited ∷ []) in let q = are.many in omega (arith, e, q);
      few = let le = are.few in omega arith;
      from = λ j one e. ⊎_elim
          (λ was. let old = are.from j one was in let lt = old.1.0 in (old.0, (omega (arith, lt), old.1.1)))
          (λ last. (n, (omega arith, here ∙ ap Some (sym last.1)))) (get_push are.chosen visited j one e);
      apart = λ i j one other e q same. ⊎_elim
          (λ was. ⊎_elim (λ its. are.apart i j one other was its same)
          (λ last. absurd (clash i one was (subst (λ (x : Visited Key). k.CountAsOne one.key x.key) last.1 same)))
          (get_push are.chosen visited j other q))
          (λ last. ⊎_elim
          (λ its. absurd (clash j other its
          (laws.one_back visited.key other.key
          (subst (λ (x : Visited Key). k.CountAsOne x.key other.key) last.1 same))))
          (λ too. last.0 ∙ sym too.0) (get_push are.chosen visited j other q))
          (get_push are.chosen visited i one e);
      all = λ m x lt e. ⊎_elim
          (λ less. let its = are.all m x less e in
          (its.0, (its.1.0, (get_left are.chosen visited its.0 its.1.0 its.1.1.0, its.1.1.1))))
          (λ last.
          let same : visited ≡ x = same_Some visited x (sym here ∙ (ap (slice_get all_visited) (sym last) ∙ e)) in (
            length are.chosen,
            (
              visited,
              (
                get_last are.chosen visited,
                subst (λ (l : Visited Key). k.CountAsOne l.key visited.key) same (laws.one_itself visited.key),
              ),
            ),
          ))
          (at_or_below m n (omega (arith, lt)));
    }
      where
        clash : (i : ℕ) (one : Visited Key) → slice_get are.chosen i ≡ Some one → k.CountAsOne one.key visited.key → ⊥
        clash i one e same =
            let was = are.from i one e in
            none was.0 was.1.0 (one, (was.1.1, laws.one_back one.key visited.key same))

  -- the states that are left, one after another
  module _ (all_visited : List (Visited Key)) (markings : AreMarked k all_visited) where
    -- the state at one place more
    among_next : (n states : ℕ) (visited : Visited Key) (b : Bool) → slice_get all_visited n ≡ Some visited
        → visited.is_new ≡ b → AreStatesAmong s k all_visited n states
        → AreStatesAmong s k all_visited (suc n) (states + cond b 1 0)
    among_next n states visited true here e are =
        subst (λ m. AreStatesAmong s k all_visited (suc n) m) (omega arith)
        (among_new all_visited n states visited here are
        (subst (λ (b : Bool). IsNew k b all_visited n visited.key) e (markings n visited here)))
    among_next n states visited false here e are =
        subst (λ m. AreStatesAmong s k all_visited (suc n) m) (omega arith)
        (among_old all_visited n states visited here are
        (subst (λ (b : Bool). IsNew k b all_visited n visited.key) e (markings n visited here)))

    among_rest : (rest : List (Visited Key)) (n states : ℕ)
        → ((m : ℕ) → slice_get rest m ≡ slice_get all_visited (n + m)) → AreStatesAmong s k all_visited n states
        → AreStatesAmong s k all_visited (n + length rest) (states + states_in rest)
    among_rest [] n states is are =
        subst (λ m. AreStatesAmong s k all_visited m (states + 0)) (omega arith)
        (subst (λ m. AreStatesAmong s k all_visited n m) (omega arith) are)
    among_rest (visited ∷ rest) n states is are =
        let here : slice_get all_visited n ≡ Some visited = ap (slice_get all_visited) (omega arith) ∙ sym (is 0) in
        let after : (m : ℕ) → slice_get rest m ≡ slice_get all_visited (suc n + m) =
        λ m. is (suc m) ∙ ap (slice_get all_visited) (omega arith) in
        let more = among_rest rest (suc n) (states + cond visited.is_new 1 0) after
        (among_next n states visited visited.is_new here refl are) in
        subst (λ m. AreStatesAmong s k all_visited m
        (states + cond visited.is_new (1 + states_in rest) (states_in rest))) (omega arith)
        (subst (λ m. AreStatesAmong s k all_visited (suc n + length rest) m)
        (one_more visited.is_new states (states_in rest)) more)

  -- the states that were put after the first n were counted
  among_counted : (all_visited : List (Visited Key)) (n states more : ℕ) → AreMarked k all_visited
      → n ≤ length all_visited → more ≡ count_new (drop n all_visited) → AreStatesAmong s k all_visited n states
      → AreStatesAmong s k all_visited (length all_visited) (states + more)
  among_counted all_visited n states more markings le counted are =
      subst (λ m. AreStatesAmong s k all_visited m (states + more)) (drop_long all_visited n le)
      (subst (λ m. AreStatesAmong s k all_visited (n + length (drop n all_visited)) (states + m))
      (states_are (drop n all_visited) ∙ sym counted)
      (among_rest all_visited markings (drop n all_visited) n states (get_drop all_visited n) are))

  -- some were put after the first, and counted
  pub taken_states : (old next : List (Visited Key)) (states now more had : ℕ)
      → AreStatesAmong s k old (length old) states → Keeps old next → now ≡ states → AreMarked k next
      → had ≡ length old → more ≡ count_new (drop had next) → AreStatesAmong s k next (length next) (now + more)
  taken_states old next states now more had are keeps same markings had_is counted =
      subst (λ m. AreStatesAmong s k next (length next) (m + more)) (sym same)
      (among_counted next (length old) states more markings (keeps_long old next keeps)
      (counted ∙ ap (λ (n : ℕ). count_new (drop n next)) had_is)
      (among_more old next (length old) states keeps (omega arith) are))
