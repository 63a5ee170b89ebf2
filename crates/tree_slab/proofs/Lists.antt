-- What lru says of its entries, whose keys differ, in the words of a cache.
use Rattle.std.proofs.Common.{◌≡◌, ℕ, zero, suc, ◌-◌, ◌<◌, ◌≤◌, Bool, true, false, cond, not, List, [], ◌∷◌, length, take, filter, Option, Some, None, refl, sym, ap, subst, ◌∙◌, arith}
use Rattle.std.specs.List.{AllByRecursion, IsDistinct}
use Rattle.std.specs.Option.{option_map, option_map_or}
use Rattle.std.specs.Map.{keys_of, lookup, lookup_entry, remove_entry}
use Rattle.std.proofs.lemmas.Map.Keys.{IsDistinct-head, IsDistinct-tail}
use Rattle.std.proofs.lemmas.List.{take_all}
use Rattle.lru.specs.LruCache.{LruCache, IsValid, promoted, put_entries}
use Rattle.lru.proofs.CallerLemmas.{Contains-lookup_entry}
use Rattle.tree_slab.specs.Cache.{Cache, same_entry, looked, noted, forgotten}
use Rattle.tree_slab.proofs.CacheKeys.{Key, same_entry-true}

abbrev pub Entry : Type 0
Entry = Key × Option ℕ

abbrev pub cache : List Entry → ℕ → Cache
cache es cap = record { entries = es; cap = cap }

module _ (k : Key) where
  none_filtered : (es : List Entry) → AllByRecursion (λ y. same_entry k y ≡ false) (keys_of es) → filter (λ e. not (same_entry k e.0)) es ≡ es
  none_filtered [] a = refl
  none_filtered (e ∷ es) a = rw a.0 (ap (λ l. e ∷ l) (none_filtered es a.1))

  -- an entry that stands once is taken out whole
  pub remove_entry-others : (es : List Entry) → IsDistinct same_entry (keys_of es) → remove_entry (same_entry k) es ≡ filter (λ e. not (same_entry k e.0)) es
  remove_entry-others [] d = refl
  remove_entry-others (e ∷ es) d = by (remove_entry-others es (IsDistinct-tail same_entry e.0 (keys_of es) d)) (same_entry k e.0) refl
    where
      by : remove_entry (same_entry k) es ≡ filter (λ f. not (same_entry k f.0)) es → (b : Bool) → same_entry k e.0 ≡ b → cond b es (e ∷ remove_entry (same_entry k) es) ≡ cond (not b) (e ∷ filter (λ f. not (same_entry k f.0)) es) (filter (λ f. not (same_entry k f.0)) es)
      by rest true t = sym (none_filtered es (subst (λ j. AllByRecursion (λ y. same_entry j y ≡ false) (keys_of es)) (sym (same_entry-true k e.0 t)) (IsDistinct-head same_entry e.0 (keys_of es) d)))
      by rest false t = ap (λ l. e ∷ l) rest

  lookup-lookup_entry : (es : List Entry) → lookup (same_entry k) es ≡ option_map (λ e. e.1) (lookup_entry (same_entry k) es)
  lookup-lookup_entry [] = refl
  lookup-lookup_entry (e ∷ es) = by (lookup-lookup_entry es) (same_entry k e.0)
    where
      by : lookup (same_entry k) es ≡ option_map (λ f. f.1) (lookup_entry (same_entry k) es) → (b : Bool) → cond b (Some e.1) (lookup (same_entry k) es) ≡ option_map (λ e. e.1) (cond b (Some e) (lookup_entry (same_entry k) es))
      by rest true = refl
      by rest false = rest

  absent_filtered : (es : List Entry) → lookup_entry (same_entry k) es ≡ None → filter (λ e. not (same_entry k e.0)) es ≡ es
  absent_filtered [] a = refl
  absent_filtered (e ∷ es) a = by (absent_filtered es) (same_entry k e.0) a
    where
      by : (lookup_entry (same_entry k) es ≡ None → filter (λ f. not (same_entry k f.0)) es ≡ es) → (b : Bool) → cond b (Some e) (lookup_entry (same_entry k) es) ≡ None → cond (not b) (e ∷ filter (λ f. not (same_entry k f.0)) es) (filter (λ f. not (same_entry k f.0)) es) ≡ e ∷ es
      by rest true t = cc
      by rest false t = ap (λ l. e ∷ l) (rest t)

  found_key : (es : List Entry) (e : Entry) → lookup_entry (same_entry k) es ≡ Some e → e.0 ≡ k
  found_key es e h = sym (same_entry-true k e.0 (Contains-lookup_entry (same_entry k) es e h).1)

  length-remove_entry : (es : List Entry) (e : Entry) → lookup_entry (same_entry k) es ≡ Some e → suc (length (remove_entry (same_entry k) es)) ≡ length es
  length-remove_entry [] e h = cc
  length-remove_entry (f ∷ es) e h = by (length-remove_entry es e) (same_entry k f.0) h
    where
      by : (lookup_entry (same_entry k) es ≡ Some e → suc (length (remove_entry (same_entry k) es)) ≡ length es) → (b : Bool) → cond b (Some f) (lookup_entry (same_entry k) es) ≡ Some e → suc (length (cond b es (f ∷ remove_entry (same_entry k) es))) ≡ suc (length es)
      by rest true t = refl
      by rest false t = ap suc (rest t)

module _ (d : ℕ) (n : List ℕ) (cap : ℕ) where
  -- the entry that is looked up goes first
  pub looked-promoted : (es : List Entry) → IsDistinct same_entry (keys_of es) → cache (promoted (same_entry (d, n)) es) cap ≡ looked (cache es cap) d n
  looked-promoted es distinct = by (lookup_entry (same_entry (d, n)) es) refl
    where
      by : (o : Option Entry) → lookup_entry (same_entry (d, n)) es ≡ o → cache (option_map_or (λ e. e ∷ remove_entry (same_entry (d, n)) es) o es) cap ≡ looked (cache es cap) d n
      by None h = rw (lookup-lookup_entry (d, n) es, h) refl
      by (Some e) h = rw (lookup-lookup_entry (d, n) es, h) (λ i. cache ((found_key (d, n) es e h i, e.1) ∷ remove_entry-others (d, n) es distinct i) cap)

  pub forgotten-removed : (es : List Entry) → IsDistinct same_entry (keys_of es) → cache (remove_entry (same_entry (d, n)) es) cap ≡ forgotten (cache es cap) d n
  forgotten-removed es distinct = ap (λ l. cache l cap) (remove_entry-others (d, n) es distinct)

take-cons : (cap : ℕ) (e : Entry) (es : List Entry) → 0 < cap → take cap (e ∷ es) ≡ e ∷ take (cap - 1) es
take-cons zero e es more = absurd (omega arith)
take-cons (suc cap) e es more = ap (λ n. e ∷ take n es) (omega arith)

-- the entry that is put goes first, and where that is one too many the last goes
pub noted-put : (c : LruCache Key (Option ℕ)) (d : ℕ) (n : List ℕ) (x : Option ℕ) → IsValid same_entry c → cache (put_entries same_entry c (d, n) x) c.cap ≡ noted (cache c.entries c.cap) d n x
noted-put c d n x valid = by (lookup_entry (same_entry (d, n)) c.entries) refl
  where
    by : (o : Option Entry) → lookup_entry (same_entry (d, n)) c.entries ≡ o
        → cache (option_map_or (λ e. (e.0, x) ∷ remove_entry (same_entry (d, n)) c.entries) o (((d, n), x) ∷ take (c.cap - 1) c.entries)) c.cap ≡ noted (cache c.entries c.cap) d n x
    by None h = ap (λ l. cache l c.cap) (sym (take-cons c.cap ((d, n), x) c.entries valid.2) ∙ ap (λ l. take c.cap (((d, n), x) ∷ l)) (sym (absent_filtered (d, n) c.entries h)))
    by (Some e) h =
        let count = length-remove_entry (d, n) c.entries e h in
        let bound = valid.1 in
        let fits : suc (length (remove_entry (same_entry (d, n)) c.entries)) ≤ c.cap = omega arith in
        ap (λ l. cache l c.cap) (
        (λ i. (found_key (d, n) c.entries e h i, x) ∷ remove_entry (same_entry (d, n)) c.entries)
        ∙ sym (take_all c.cap (((d, n), x) ∷ remove_entry (same_entry (d, n)) c.entries) fits)
        ∙ ap (λ l. take c.cap (((d, n), x) ∷ l)) (remove_entry-others (d, n) c.entries valid.0))
