-- The map of a directory's entries by the bytes of their names: what a look-up finds, and what a change leaves.
use Rattle.std.proofs.Common.{◌≡◌, ℕ, Bool, true, false, cond, List, [], ◌∷◌, map, Option, Some, refl, ap, sym, ◌∙◌, Less}
use Rattle.std.proofs.lemmas.Bool.{false≢true}
use Rattle.std.specs.Cmp.Lexicographic.{slice_cmp}
use Rattle.std.specs.List.{AllByRecursion}
use Rattle.std.specs.List.Sorted.{IsStrictlySortedBy}
use Rattle.std.specs.Map.{lookup, keys_of, KeepsOthers}
use Rattle.std.specs.Ordering.{nat_cmp, eq_by_cmp}
use Rattle.tree_slab.specs.Directories.{is_name, ChangesEntry}
use Rattle.tree_slab.proofs.NameOrder.{is_name-true}

module _ {K : Type 0} (bytes : K → List ℕ) where
  -- the entries by the bytes of their names
  abbrev pub named : List (K × ℕ) → List (List ℕ × ℕ)
  named entries = map (λ e. (bytes e.0, e.1)) entries

  pub lookup-named : (n : List ℕ) (entries : List (K × ℕ)) → lookup (is_name n) (named entries) ≡ lookup (λ k. is_name n (bytes k)) entries
  lookup-named n [] = refl
  lookup-named n (e ∷ entries) = ap (cond (is_name n (bytes e.0)) (Some e.1)) (lookup-named n entries)

  pub keys-named : (entries : List (K × ℕ)) → keys_of (named entries) ≡ map bytes (keys_of entries)
  keys-named [] = refl
  keys-named (e ∷ entries) = ap (λ names. bytes e.0 ∷ names) (keys-named entries)

  -- the entry of that name leads elsewhere, and whoever asks for another finds what was there
  pub changed_named : (n : List ℕ) (x : Option ℕ) (old new : List (K × ℕ)) → lookup (λ k. is_name n (bytes k)) new ≡ x
      → KeepsOthers (eq_by_cmp (λ j k. slice_cmp nat_cmp (bytes j) (bytes k))) (λ k. is_name n (bytes k)) old new → ChangesEntry (named old) (named new) n x
  unfolding KeepsOthers
  changed_named n x old new here others m = lookup-named m new ∙ by (is_name n m) refl ∙ ap (cond (is_name n m) x) (sym (lookup-named m old))
    where
      by : (b : Bool) → is_name n m ≡ b → lookup (λ k. is_name m (bytes k)) new ≡ cond (is_name n m) x (lookup (λ k. is_name m (bytes k)) old)
      by true e = rw e (ap (λ q. lookup (λ k. is_name q (bytes k)) new) (sym (is_name-true n m e)) ∙ here)
      by false e = rw e (others (λ k. is_name m (bytes k)) (λ j k t. ap (λ q. is_name q (bytes k)) (is_name-true m (bytes j) t)) (λ k t. apart k t (is_name m (bytes k)) refl))
        where
          apart : (k : K) → is_name n (bytes k) ≡ true → (b : Bool) → is_name m (bytes k) ≡ b → b ≡ false
          apart k t true u = absurd (false≢true (sym e ∙ ap (is_name n) (is_name-true m (bytes k) u) ∙ t))
          apart k t false u = refl

  below_all : (k : K) (keys : List K) → AllByRecursion (λ j. slice_cmp nat_cmp (bytes k) (bytes j) ≡ Less) keys → AllByRecursion (λ m. slice_cmp nat_cmp (bytes k) m ≡ Less) (map bytes keys)
  below_all k [] all = tt
  below_all k (j ∷ keys) all = (all.0, below_all k keys all.1)

  pub sorted-named : (keys : List K) → IsStrictlySortedBy (λ j k. slice_cmp nat_cmp (bytes j) (bytes k)) keys → IsStrictlySortedBy (slice_cmp nat_cmp) (map bytes keys)
  unfolding IsStrictlySortedBy
  sorted-named [] sorted = tt
  sorted-named (k ∷ keys) sorted = (below_all k keys sorted.0, sorted-named keys sorted.1)
