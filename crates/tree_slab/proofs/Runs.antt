-- What is found after any calls was noted last; and no call makes a cache anything else.
use Rattle.std.proofs.Common.{◌≡◌, ◌≤◌, ℕ, zero, suc, Bool, true, false, cond, not, List, [], ◌∷◌, length, take, filter, Option, Some, None, refl, sym, ap, ◌∙◌, arith}
use Rattle.std.specs.List.{AllByRecursion, IsDistinct}
use Rattle.std.specs.Option.{option_map_or}
use Rattle.std.specs.Map.{keys_of, lookup}
use Rattle.std.proofs.lemmas.Map.Keys.{IsDistinct-head, IsDistinct-tail, IsDistinct-cons}
use Rattle.std.proofs.lemmas.Map.Made.{IsDistinct-keys_filter}
use Rattle.std.proofs.lemmas.List.{length-take}
use Rattle.tree_slab.specs.Cache.{Cache, IsCache, same_entry, found, others, looked, noted}
use Rattle.tree_slab.specs.Calls.{Call, Look, Note, Forget, cache_after, last_noted}
use Rattle.tree_slab.proofs.CacheKeys.{Key}
use Rattle.tree_slab.proofs.Lists.{Entry}
use Rattle.tree_slab.proofs.Finds.{found-others, lookup-take, found-first, found-looked}

pub hits : (most : ℕ) (calls : List Call) (d : ℕ) (n : List ℕ) (x : Option ℕ) → found (cache_after most calls) d n ≡ Some x → last_noted d n calls ≡ Some x
hits most [] d n x h = cc
hits most (Look e m ∷ before) d n x h = hits most before d n x (found-looked (cache_after most before) e m d n x h)
hits most (Note e m y ∷ before) d n x h =
    by (hits most before d n x) (same_entry (e, m) (d, n)) (found-first (cache_after most before) e m y d n x (same_entry (e, m) (d, n)) refl (lookup-take (same_entry (d, n)) (cache_after most before).cap (((e, m), y) ∷ others (cache_after most before) e m) x h))
  where
    by : (found (cache_after most before) d n ≡ Some x → last_noted d n before ≡ Some x) → (b : Bool) → cond b (Some y) (found (cache_after most before) d n) ≡ Some x → cond b (Some y) (last_noted d n before) ≡ Some x
    by rest true t = t
    by rest false t = rest t
hits most (Forget e m ∷ before) d n x h = by (hits most before d n x) (same_entry (e, m) (d, n)) (sym (found-others (cache_after most before) e m d n (same_entry (e, m) (d, n)) refl) ∙ h)
  where
    by : (found (cache_after most before) d n ≡ Some x → last_noted d n before ≡ Some x) → (b : Bool) → cond (not b) (found (cache_after most before) d n) None ≡ Some x → cond b None (last_noted d n before) ≡ Some x
    by rest true t = t
    by rest false t = rest t

-- ---- what stays a cache

all_taken : (P : Key → Type 0) (count : ℕ) (es : List Entry) → AllByRecursion P (keys_of es) → AllByRecursion P (keys_of (take count es))
all_taken P zero es a = tt
all_taken P (suc count) [] a = tt
all_taken P (suc count) (e ∷ es) a = (a.0, all_taken P count es a.1)

none_distinct : IsDistinct same_entry []
unfolding IsDistinct
none_distinct = tt

distinct_taken : (count : ℕ) (es : List Entry) → IsDistinct same_entry (keys_of es) → IsDistinct same_entry (keys_of (take count es))
distinct_taken zero es d = none_distinct
distinct_taken (suc count) [] d = d
distinct_taken (suc count) (e ∷ es) d =
    IsDistinct-cons same_entry e.0 (keys_of (take count es)) (all_taken (λ y. same_entry e.0 y ≡ false) count es (IsDistinct-head same_entry e.0 (keys_of es) d))
    (distinct_taken count es (IsDistinct-tail same_entry e.0 (keys_of es) d))

all_others : (k : Key) (es : List Entry) → AllByRecursion (λ y. same_entry k y ≡ false) (keys_of (filter (λ e. not (same_entry k e.0)) es))
all_others k [] = tt
all_others k (e ∷ es) = by (all_others k es) (same_entry k e.0) refl
  where
    by : AllByRecursion (λ y. same_entry k y ≡ false) (keys_of (filter (λ f. not (same_entry k f.0)) es)) → (b : Bool) → same_entry k e.0 ≡ b → AllByRecursion (λ y. same_entry k y ≡ false) (keys_of (cond (not b) (e ∷ filter (λ f. not (same_entry k f.0)) es) (filter (λ f. not (same_entry k f.0)) es)))
    by rest true t = rest
    by rest false t = (t, rest)

distinct_first : (c : Cache) → IsCache c → (d : ℕ) (n : List ℕ) (x : Option ℕ) → IsDistinct same_entry (keys_of (((d, n), x) ∷ others c d n))
distinct_first c i d n x = IsDistinct-cons same_entry (d, n) (keys_of (others c d n)) (all_others (d, n) c.entries) (IsDistinct-keys_filter same_entry (λ e. not (same_entry (d, n) e.0)) c.entries i.distinct)

length-filter-le : (p : Entry → Bool) (es : List Entry) → length (filter p es) ≤ length es
length-filter-le p [] = omega arith
length-filter-le p (e ∷ es) = by (p e) (length-filter-le p es)
  where
    by : (b : Bool) → length (filter p es) ≤ length es → length (cond b (e ∷ filter p es) (filter p es)) ≤ suc (length es)
    by true h = omega arith
    by false h = omega arith

-- one that is found isn't among the others
length-others : (k : Key) (es : List Entry) (x : Option ℕ) → lookup (same_entry k) es ≡ Some x → suc (length (filter (λ e. not (same_entry k e.0)) es)) ≤ length es
length-others k [] x h = cc
length-others k (e ∷ es) x h = by (length-others k es x) (same_entry k e.0) h
  where
    by : (lookup (same_entry k) es ≡ Some x → suc (length (filter (λ f. not (same_entry k f.0)) es)) ≤ length es) → (b : Bool) → cond b (Some e.1) (lookup (same_entry k) es) ≡ Some x → suc (length (cond (not b) (e ∷ filter (λ f. not (same_entry k f.0)) es) (filter (λ f. not (same_entry k f.0)) es))) ≤ suc (length es)
    by rest true t = let h = length-filter-le (λ f. not (same_entry k f.0)) es in omega arith
    by rest false t = let h = rest t in omega arith

kept-filter : (c : Cache) → IsCache c → (p : Entry → Bool) → IsCache (record { entries = filter p c.entries; cap = c.cap })
kept-filter c i p = record {
  distinct = IsDistinct-keys_filter same_entry p c.entries i.distinct;
  bounded = let h = length-filter-le p c.entries in let g = i.bounded in omega arith;
}

kept-looked : (c : Cache) → IsCache c → (d : ℕ) (n : List ℕ) → IsCache (looked c d n)
kept-looked c i d n = by (found c d n) refl
  where
    by : (o : Option (Option ℕ)) → found c d n ≡ o → IsCache (option_map_or (λ x. record { entries = ((d, n), x) ∷ others c d n; cap = c.cap }) o c)
    by None was = i
    by (Some x) was = record {
      distinct = distinct_first c i d n x;
      bounded = let h = length-others (d, n) c.entries x was in let g = i.bounded in omega arith;
    }

kept-noted : (c : Cache) → IsCache c → (d : ℕ) (n : List ℕ) (x : Option ℕ) → IsCache (noted c d n x)
kept-noted c i d n x = record {
  distinct = distinct_taken c.cap (((d, n), x) ∷ others c d n) (distinct_first c i d n x);
  bounded = omega (arith, length-take c.cap (((d, n), x) ∷ others c d n));
}

pub caches : (most : ℕ) (calls : List Call) → IsCache (cache_after most calls)
caches most [] = record { distinct = none_distinct; bounded = omega arith }
caches most (Look d n ∷ before) = kept-looked (cache_after most before) (caches most before) d n
caches most (Note d n x ∷ before) = kept-noted (cache_after most before) (caches most before) d n x
caches most (Forget d n ∷ before) = kept-filter (cache_after most before) (caches most before) (λ e. not (same_entry (d, n) e.0))
