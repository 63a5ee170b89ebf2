-- Words are in one order, which stays where both go on by one edge.
use Rattle.std.specs.Prelude.{◌≡◌, ◌==◌, ◌<◌, ◌+◌, ℕ, zero, suc, length, List, [], ◌∷◌, ◌++◌, Bool, true, false, not, None, Some, nat_lt, slice_get, refl}
use Rattle.std.proofs.Common.{Ordering, ◌⊎◌, ◌∙◌, sym, ap, subst, ⊎_elim, arith, drop}
use Rattle.std.specs.Cmp.Lexicographic.{slice_cmp}
use Rattle.std.specs.Ordering.{is_lt, nat_cmp, ordering_then}
use Rattle.std.proofs.lemmas.Option.{none-some, same_Some}
use Rattle.std.proofs.lemmas.Bool.Decides.{nat_tests}
use Rattle.std.proofs.lemmas.Bool.{true≢false, false≢true}
use Rattle.schedule_graph.specs.declared.graph.Edge.{Edge}
use Rattle.schedule_graph.specs.Words.{plus, is_less_or, is_not_after, Rank, is_at_most}
use Rattle.schedule_graph.specs.Adding.{went}

pub less_cases : (m n : ℕ) (b : Bool) → is_less_or m n b ≡ true → (m < n) ⊎ ((m ≡ n) × (b ≡ true))
less_cases m n b e = grind (arith, nat_tests)

pub less_by : (m n : ℕ) (b : Bool) → m < n → is_less_or m n b ≡ true
less_by m n b e = grind (arith, nat_tests)

pub same_by : (m : ℕ) (b : Bool) → b ≡ true → is_less_or m m b ≡ true
same_by m b e = grind (arith, nat_tests)

more_cases : (m n : ℕ) (b : Bool) → is_less_or m n b ≡ false → (n < m) ⊎ ((m ≡ n) × (b ≡ false))
more_cases m n b e = grind (arith, nat_tests)

-- ---- the order of words

not_after_total : (is js : List ℕ) → is_not_after is js ≡ false → is_not_after js is ≡ true
not_after_total [] js e = absurd (true≢false e)
not_after_total (i ∷ is) [] e = refl
not_after_total (i ∷ is) (j ∷ js) e =
    ⊎_elim (λ lt. less_by j i (is_not_after js is) lt)
    (λ q. subst (λ k. is_less_or k i (is_not_after js is) ≡ true) q.0 (same_by i (is_not_after js is) (not_after_total is js q.1)))
    (more_cases i j (is_not_after is js) e)

chain_less : (m n k : ℕ) (b c d : Bool) → (b ≡ true → c ≡ true → d ≡ true) → is_less_or m n b ≡ true → is_less_or n k c ≡ true → is_less_or m k d ≡ true
chain_less m n k b c d on e f =
    ⊎_elim
    (λ lt. ⊎_elim (λ lt'. less_by m k d (omega arith)) (λ q. less_by m k d (omega (arith, q.0))) (less_cases n k c f))
    (λ p. ⊎_elim (λ lt'. less_by m k d (omega (arith, p.0)))
    (λ q. subst (λ j. is_less_or m j d ≡ true) (p.0 ∙ q.0) (same_by m d (on p.1 q.1))) (less_cases n k c f))
    (less_cases m n b e)

not_after_chain : (is js ks : List ℕ) → is_not_after is js ≡ true → is_not_after js ks ≡ true → is_not_after is ks ≡ true
not_after_chain [] js ks e f = refl
not_after_chain (i ∷ is) [] ks e f = absurd (false≢true e)
not_after_chain (i ∷ is) (j ∷ js) [] e f = absurd (false≢true f)
not_after_chain (i ∷ is) (j ∷ js) (k ∷ ks) e f =
    chain_less i j k (is_not_after is js) (is_not_after js ks) (is_not_after is ks) (not_after_chain is js ks) e f

-- ---- ranks

total_less : (m n : ℕ) (b c : Bool) → (b ≡ false → c ≡ true) → is_less_or m n b ≡ false → is_less_or n m c ≡ true
total_less m n b c on e =
    ⊎_elim (λ lt. less_by n m c lt) (λ q. subst (λ k. is_less_or k m c ≡ true) q.0 (same_by m c (on q.1))) (more_cases m n b e)

pub ranks_total : (a b : Rank) → is_at_most a b ≡ false → is_at_most b a ≡ true
ranks_total a b e =
    total_less a.cuts b.cuts _ _ (λ f. total_less a.changes b.changes _ _ (λ g. not_after_total a.turns b.turns g) f) e

pub ranks_chain : (a b c : Rank) → is_at_most a b ≡ true → is_at_most b c ≡ true → is_at_most a c ≡ true
ranks_chain a b c e f =
    chain_less a.cuts b.cuts c.cuts _ _ _ (λ g h. chain_less a.changes b.changes c.changes _ _ _ (λ i j. not_after_chain a.turns b.turns c.turns i j) g h) e f

-- ---- both go on

less_plus : (more : Bool) (m n : ℕ) (b c : Bool) → (b ≡ true → c ≡ true) → is_less_or m n b ≡ true → is_less_or (plus more m) (plus more n) c ≡ true
less_plus true m n b c on e =
    ⊎_elim (λ lt. less_by (suc m) (suc n) c (omega arith)) (λ q. subst (λ k. is_less_or (suc m) (suc k) c ≡ true) q.0 (same_by (suc m) c (on q.1))) (less_cases m n b e)
less_plus false m n b c on e =
    ⊎_elim (λ lt. less_by m n c lt) (λ q. subst (λ k. is_less_or m k c ≡ true) q.0 (same_by m c (on q.1))) (less_cases m n b e)

not_after_more : (is js : List ℕ) (l : ℕ) → length is ≡ length js → is_not_after is js ≡ true → is_not_after (is ++ l ∷ []) (js ++ l ∷ []) ≡ true
not_after_more [] [] l long e = same_by l true refl
not_after_more [] (j ∷ js) l long e = absurd (omega arith)
not_after_more (i ∷ is) [] l long e = absurd (omega arith)
not_after_more (i ∷ is) (j ∷ js) l long e =
    ⊎_elim (λ lt. less_by i j (is_not_after (is ++ l ∷ []) (js ++ l ∷ [])) lt)
    (λ q. subst (λ k. is_less_or i k (is_not_after (is ++ l ∷ []) (js ++ l ∷ [])) ≡ true) q.0
    (same_by i (is_not_after (is ++ l ∷ []) (js ++ l ∷ [])) (not_after_more is js l (omega arith) q.1)))
    (less_cases i j (is_not_after is js) e)

pub went_at_most : (a b : Rank) (edge : Edge) → length a.turns ≡ length b.turns → is_at_most a b ≡ true → is_at_most (went a edge) (went b edge) ≡ true
went_at_most a b edge long e =
    less_plus edge.cut a.cuts b.cuts _ _ (λ f. less_plus edge.change a.changes b.changes _ _ (λ g. not_after_more a.turns b.turns edge.label long g) f) e

-- ---- where one list has ended

past_none : (is : List ℕ) (n : ℕ) → n < length is → is_not_after (drop n is) [] ≡ false
past_none [] n lt = absurd (omega arith)
past_none (i ∷ is) zero lt = refl
past_none (i ∷ is) (suc n) lt = past_none is n (omega arith)

-- a list that goes on where the other has ended is after it
pub past_end : (is js : List ℕ) (n : ℕ) → n < length is → slice_get js n ≡ None → is_not_after (drop n is) (drop n js) ≡ false
past_end [] js n lt e = absurd (omega arith)
past_end (i ∷ is) [] zero lt e = refl
past_end (i ∷ is) [] (suc n) lt e = past_none is n (omega arith)
past_end (i ∷ is) (j ∷ js) zero lt e = absurd (none-some j (sym e))
past_end (i ∷ is) (j ∷ js) (suc n) lt e = past_end is js n (omega arith) e

-- where the other has nothing
pub not_after_none : (is js : List ℕ) → length js ≡ 0 → (length is == 0) ≡ is_not_after is js
not_after_none [] [] e = refl
not_after_none (i ∷ is) [] e = grind (arith, nat_tests)
not_after_none is (j ∷ js) e = absurd (omega arith)

-- ---- where both go on

both_at : (is js : List ℕ) (n i j : ℕ) → slice_get is n ≡ Some i → slice_get js n ≡ Some j
    → is_not_after (drop n is) (drop n js) ≡ is_less_or i j (is_not_after (drop (suc n) is) (drop (suc n) js))
both_at [] js n i j e f = absurd (none-some i e)
both_at (a ∷ is) [] n i j e f = absurd (none-some j f)
both_at (a ∷ is) (b ∷ js) zero i j e f =
    ap (λ x. is_less_or x b (is_not_after is js)) (same_Some a i e) ∙ ap (λ x. is_less_or i x (is_not_after is js)) (same_Some b j f)
both_at (a ∷ is) (b ∷ js) (suc n) i j e f = both_at is js n i j e f

less_differ : (m n : ℕ) (b : Bool) → (m ≡ n → ⊥) → is_less_or m n b ≡ nat_lt m n
less_differ m n b ne = grind (arith, nat_tests)

less_same : (m n : ℕ) (b : Bool) → m ≡ n → is_less_or m n b ≡ b
less_same m n b e = grind (arith, nat_tests)

-- where they differ first
pub not_after_differ : (is js : List ℕ) (n i j : ℕ) → slice_get is n ≡ Some i → slice_get js n ≡ Some j → (i ≡ j → ⊥)
    → is_not_after (drop n is) (drop n js) ≡ nat_lt i j
not_after_differ is js n i j e f ne = both_at is js n i j e f ∙ less_differ i j _ ne

-- where they don't
pub not_after_next : (is js : List ℕ) (n i j : ℕ) → slice_get is n ≡ Some i → slice_get js n ≡ Some j → i ≡ j
    → is_not_after (drop n is) (drop n js) ≡ is_not_after (drop (n + 1) is) (drop (n + 1) js)
not_after_next is js n i j e f same =
    let up : suc n ≡ n + 1 = omega arith in
    subst (λ m. is_not_after (drop n is) (drop n js) ≡ is_not_after (drop m is) (drop m js)) up
    (both_at is js n i j e f ∙ less_same i j _ same)

-- ---- as lists are compared

-- the lesser number decides, or else what comes then
pub then_less : (m n : ℕ) (rest : Ordering) (b : Bool) → is_lt rest ≡ not b → is_lt (ordering_then (nat_cmp m n) rest) ≡ not (is_less_or n m b)
then_less m n rest b e = grind (arith, nat_tests)

pub lists_less : (is js : List ℕ) → is_lt (slice_cmp nat_cmp is js) ≡ not (is_not_after js is)
lists_less [] [] = refl
lists_less [] (j ∷ js) = refl
lists_less (i ∷ is) [] = refl
lists_less (i ∷ is) (j ∷ js) = then_less i j (slice_cmp nat_cmp is js) (is_not_after js is) (lists_less is js)
