-- Beginnings that rise from part to part: none of them begins another.
use Rattle.std.proofs.Common.{◌≡◌, ◌<◌, ◌≤◌, ℕ, zero, suc, Bool, true, false, not, ◌&&◌, ◌||◌, ⊎_elim, List, [], ◌∷◌, length, take, drop, get_or, refl, sym, ap, ◌∙◌, subst, arith}
use Rattle.std.specs.Prelude.{◌==◌, nat_eq}
use Rattle.std.specs.List.{AllByRecursion, list_any, starts_with}
use Rattle.std.specs.List.Sorted.{IsPermutation}
use Rattle.std.proofs.lemmas.Bool.{false≢true, and_parts, and_from}
use Rattle.std.proofs.lemmas.Bool.Decides.{nat_tests}
use Rattle.std.proofs.lemmas.List.Sorted.{IsPermutation-sym}
use Rattle.std.proofs.lemmas.Slice.Eq.{bytes_eq-Decides}
use Rattle.std.proofs.lemmas.List.{drop_all, take_all}
use Rattle.schedule_graph.specs.Words.{is_less_or}
use Rattle.outcome_text.specs.declared.part.Part.{Part}
use Rattle.outcome_text.specs.Apart.{is_below, rise_after, rise}
use Rattle.outcome_text.specs.Merge.{go_along, goes_along, are_apart}
use Rattle.outcome_text.proofs.AnyOrder.{apart_in, apart_in_any_order}
use Rattle.schedule_graph.proofs.Ranks.{less_cases, less_by, same_by}

-- ---- lists of which one is below the other

below_chain : (is js ks : List ℕ) → is_below is js ≡ true → is_below js ks ≡ true → is_below is ks ≡ true
below_chain [] js ks e f = absurd (false≢true e)
below_chain (i ∷ is) [] ks e f = absurd (false≢true e)
below_chain (i ∷ is) (j ∷ js) [] e f = absurd (false≢true f)
below_chain (i ∷ is) (j ∷ js) (k ∷ ks) e f =
    ⊎_elim
    (λ lt. ⊎_elim (λ lt'. less_by i k (is_below is ks) (omega arith)) (λ q. less_by i k (is_below is ks) (omega (arith, q.0))) (less_cases j k (is_below js ks) f))
    (λ p. ⊎_elim (λ lt'. less_by i k (is_below is ks) (omega (arith, p.0)))
    (λ q. subst (λ n. is_less_or i n (is_below is ks) ≡ true) (p.0 ∙ q.0) (same_by i (is_below is ks) (below_chain is js ks p.1 q.1)))
    (less_cases j k (is_below js ks) f))
    (less_cases i j (is_below is js) e)

unequal : (m n : ℕ) (b : Bool) → m < n → ((m == n) && b) ≡ false
unequal m n b lt = grind (arith, nat_tests)

unequal_back : (m n : ℕ) (b : Bool) → m < n → ((n == m) && b) ≡ false
unequal_back m n b lt = grind (arith, nat_tests)

none_else : (b c : Bool) → c ≡ false → (b && c) ≡ false
none_else true c e = e
none_else false c e = refl

-- the other one doesn't begin with the one, and the one not with the other
no_start : (is js : List ℕ) → is_below is js ≡ true → (starts_with nat_eq is js ≡ false) × (starts_with nat_eq js is ≡ false)
no_start [] js e = absurd (false≢true e)
no_start (i ∷ is) [] e = absurd (false≢true e)
no_start (i ∷ is) (j ∷ js) e =
    ⊎_elim (λ lt. (unequal_back i j (starts_with nat_eq is js) lt, unequal i j (starts_with nat_eq js is) lt))
    (λ p. let rest = no_start is js p.1 in (none_else (j == i) (starts_with nat_eq is js) rest.0, none_else (i == j) (starts_with nat_eq js is) rest.1))
    (less_cases i j (is_below is js) e)

below_apart : (is js : List ℕ) → is_below is js ≡ true → go_along is js ≡ false
below_apart is js e = let none = no_start is js e in λ i. none.0 i || none.1 i

-- ---- parts

swapped : (b c : Bool) → (b || c) ≡ (c || b)
swapped true true = refl
swapped true false = refl
swapped false true = refl
swapped false false = refl

goes_either : (part other : Part) → goes_along part other ≡ goes_along other part
goes_either part other = swapped (starts_with nat_eq part.begin.items other.begin.items) (starts_with nat_eq other.begin.items part.begin.items)

goes_itself : (part : Part) → goes_along part part ≡ true
goes_itself part =
    let turns = part.begin.items in
    let start : starts_with nat_eq turns turns ≡ true = (bytes_eq-Decides turns (take (length turns) turns)).1 (sym (take_all (length turns) turns (omega arith))) in
    ap (λ (b : Bool). b || starts_with nat_eq turns turns) start

abbrev AllBelow : List ℕ → List Part → Type 0
AllBelow turns parts = AllByRecursion (λ part. is_below turns part.begin.items ≡ true) parts

all_below : (turns : List ℕ) (part : Part) (parts : List Part) → is_below turns part.begin.items ≡ true → rise_after part parts ≡ true → AllBelow turns (part ∷ parts)
all_below turns part [] e r = (e, tt)
all_below turns part (other ∷ parts) e r =
    let both = and_parts (is_below part.begin.items other.begin.items) (rise_after other parts) r in
    (e, all_below turns other parts (below_chain turns part.begin.items other.begin.items e both.0) both.1)

none_along : (part : Part) (parts : List Part) → AllBelow part.begin.items parts → list_any (goes_along part) parts ≡ false
none_along part [] h = refl
none_along part (other ∷ parts) h = let first = below_apart part.begin.items other.begin.items h.0 in let rest = none_along part parts h.1 in λ i. first i || rest i

rise_apart_after : (part : Part) (parts : List Part) → rise_after part parts ≡ true → are_apart (part ∷ parts) ≡ true
rise_apart_after part [] r = refl
rise_apart_after part (other ∷ parts) r =
    let both = and_parts (is_below part.begin.items other.begin.items) (rise_after other parts) r in
    let none = none_along part (other ∷ parts) (all_below part.begin.items other parts both.0 both.1) in
    and_from (not (list_any (goes_along part) (other ∷ parts))) (are_apart (other ∷ parts)) (ap not none) (rise_apart_after other parts both.1)

rise_apart : (parts : List Part) → rise parts ≡ true → are_apart parts ≡ true
rise_apart [] r = refl
rise_apart (part ∷ parts) r = rise_apart_after part parts r

same_test : (parts : List Part) → are_apart parts ≡ apart_in goes_along goes_itself goes_either parts
same_test [] = refl
same_test (part ∷ parts) = ap (λ (b : Bool). not (list_any (goes_along part) parts) && b) (same_test parts)

-- parts that rise in some order are apart
pub risen_are_apart : (parts ordered : List Part) → IsPermutation parts ordered → rise ordered ≡ true → are_apart parts ≡ true
risen_are_apart parts ordered moved risen =
    same_test parts ∙ apart_in_any_order goes_along goes_itself goes_either ordered parts (IsPermutation-sym parts ordered moved)
    (sym (same_test ordered) ∙ rise_apart ordered risen)

-- a part goes along with one behind it
pub overlap_found : (parts : List Part) (at : ℕ) (part : Part) → at < length parts → part ≡ get_or parts at part
    → list_any (goes_along part) (drop (suc at) parts) ≡ true → are_apart parts ≡ false
overlap_found [] at part within there e = absurd (omega arith)
overlap_found (first ∷ parts) zero part within there e =
    ap (λ (b : Bool). not b && are_apart parts) (subst (λ (p : Part). list_any (goes_along p) parts ≡ true) there e)
overlap_found (first ∷ parts) (suc at) part within there e =
    none_else (not (list_any (goes_along first) parts)) (are_apart parts) (overlap_found parts at part (omega arith) there e)

below_nothing : (is : List ℕ) → is_below is [] ≡ false
below_nothing [] = refl
below_nothing (i ∷ is) = refl

-- where the second list has ended
pub past_end : (is js : List ℕ) (n : ℕ) → length js ≤ n → is_below (drop n is) (drop n js) ≡ false
past_end is js n over = ap (λ (rest : List ℕ). is_below (drop n is) rest) (drop_all n js over) ∙ below_nothing (drop n is)
