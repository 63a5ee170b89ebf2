-- What was noted stays at hand while fewer calls than the cap follow that don't change it.
use Rattle.std.proofs.Common.{◌≡◌, ◌≤◌, ◌<◌, ℕ, zero, suc, Bool, true, false, cond, not, List, [], ◌∷◌, ◌++◌, length, take, filter, Option, Some, None, refl, sym, ap, ◌∙◌, arith}
use Rattle.std.specs.List.{AllByRecursion}
use Rattle.std.specs.Option.{option_map_or}
use Rattle.std.specs.Map.{lookup}
use Rattle.tree_slab.specs.Cache.{Cache, same_entry, found, others, looked, noted}
use Rattle.tree_slab.specs.Calls.{Call, Look, Note, Forget, cache_after, changes}
use Rattle.tree_slab.proofs.CacheKeys.{Key, same_entry-true, same_entry-refl, same_entry-flips}
use Rattle.tree_slab.proofs.Lists.{Entry}
use Rattle.tree_slab.proofs.Finds.{lookup-take}

-- among more of the first
more_of_them : (test : Key → Bool) (count : ℕ) (es : List Entry) (x : Option ℕ) → lookup test (take count es) ≡ Some x → lookup test (take (suc count) es) ≡ Some x
more_of_them test zero es x h = cc
more_of_them test (suc count) [] x h = h
more_of_them test (suc count) (e ∷ es) x h = by (more_of_them test count es x) (test e.0) h
  where
    by : (lookup test (take count es) ≡ Some x → lookup test (take (suc count) es) ≡ Some x) → (b : Bool) → cond b (Some e.1) (lookup test (take count es)) ≡ Some x → cond b (Some e.1) (lookup test (take (suc count) es)) ≡ Some x
    by rest true t = t
    by rest false t = rest t

-- where others are taken out an entry only comes nearer to the first
moved_up : (k : Key) (p : Key → Bool) → p k ≡ true → (count : ℕ) (es : List Entry) (x : Option ℕ) → lookup (same_entry k) (take count es) ≡ Some x → lookup (same_entry k) (take count (filter (λ e. p e.0) es)) ≡ Some x
moved_up k p kept zero es x h = cc
moved_up k p kept (suc count) [] x h = h
moved_up k p kept (suc count) (e ∷ es) x h = by (moved_up k p kept count es x) (same_entry k e.0) refl (p e.0) refl h
  where
    rest_of : List Entry
    rest_of = filter (λ f. p f.0) es

    by : (lookup (same_entry k) (take count es) ≡ Some x → lookup (same_entry k) (take count rest_of) ≡ Some x) → (b : Bool) → same_entry k e.0 ≡ b → (c : Bool) → p e.0 ≡ c
        → cond b (Some e.1) (lookup (same_entry k) (take count es)) ≡ Some x → lookup (same_entry k) (take (suc count) (cond c (e ∷ rest_of) rest_of)) ≡ Some x
    by rest true is true stays t = rw is t
    by rest true is false goes t = absurd (no (sym goes ∙ ap p (sym (same_entry-true k e.0 is)) ∙ kept))
      where
        no : false ≡ true → ⊥
        no q = cc
    by rest false is true stays t = rw is (rest t)
    by rest false is false goes t = more_of_them (same_entry k) count rest_of x (rest t)

take_fewer : (count most : ℕ) (es : List Entry) → count ≤ most → take count (take most es) ≡ take count es
take_fewer zero most es le = refl
take_fewer (suc count) zero es le = absurd (omega arith)
take_fewer (suc count) (suc most) [] le = refl
take_fewer (suc count) (suc most) (e ∷ es) le = ap (λ l. e ∷ l) (take_fewer count most es (omega arith))

same_cap : (most : ℕ) (calls : List Call) → (cache_after most calls).cap ≡ most
same_cap most [] = refl
same_cap most (Look d n ∷ before) = by (same_cap most before) (found (cache_after most before) d n)
  where
    by : (cache_after most before).cap ≡ most → (o : Option (Option ℕ)) → (option_map_or (λ x. record { entries = ((d, n), x) ∷ others (cache_after most before) d n; cap = (cache_after most before).cap }) o (cache_after most before)).cap ≡ most
    by rest None = rest
    by rest (Some x) = rest
same_cap most (Note d n x ∷ before) = same_cap most before
same_cap most (Forget d n ∷ before) = same_cap most before

module _ (d : ℕ) (n : List ℕ) (x : Option ℕ) where
  -- the entry is among so many of the first
  abbrev IsNear : Cache → ℕ → Type 0
  IsNear c count = lookup (same_entry (d, n)) (take count c.entries) ≡ Some x

  near_others : (c : Cache) (count e : ℕ) (m : List ℕ) → same_entry (e, m) (d, n) ≡ false → IsNear c count → lookup (same_entry (d, n)) (take count (others c e m)) ≡ Some x
  near_others c count e m is near = moved_up (d, n) (λ k. not (same_entry (e, m) k)) (ap not is) count c.entries x near

  near_looked : (c : Cache) (count e : ℕ) (m : List ℕ) → IsNear c count → IsNear (looked c e m) (suc count)
  near_looked c count e m near = by (found c e m) refl
    where
      first : (y : Option ℕ) → found c e m ≡ Some y → (b : Bool) → same_entry (e, m) (d, n) ≡ b → cond b (Some y) (lookup (same_entry (d, n)) (take count (others c e m))) ≡ Some x
      first y was true is = sym was ∙ ap (λ k. found c k.0 k.1) (same_entry-true (e, m) (d, n) is) ∙ lookup-take (same_entry (d, n)) count c.entries x near
      first y was false is = near_others c count e m is near

      by : (o : Option (Option ℕ)) → found c e m ≡ o → lookup (same_entry (d, n)) (take (suc count) (option_map_or (λ y. record { entries = ((e, m), y) ∷ others c e m; cap = c.cap }) o c).entries) ≡ Some x
      by None was = more_of_them (same_entry (d, n)) count c.entries x near
      by (Some y) was = rw (same_entry-flips (d, n) (e, m)) (first y was (same_entry (e, m) (d, n)) refl)

  near_noted : (c : Cache) (count e : ℕ) (m : List ℕ) (y : Option ℕ) → suc count ≤ c.cap → same_entry (e, m) (d, n) ≡ false → IsNear c count → IsNear (noted c e m y) (suc count)
  near_noted c count e m y fits is near = rw (take_fewer (suc count) c.cap (((e, m), y) ∷ others c e m) fits, same_entry-flips (d, n) (e, m), is) (near_others c count e m is near)

  near : (most : ℕ) (since before : List Call) → AllByRecursion (λ call. changes call d n ≡ false) since → length since < most → IsNear (cache_after most (since ++ Note d n x ∷ before)) (suc (length since))
  near most [] before leave fits = rw (take_fewer 1 (cache_after most before).cap (((d, n), x) ∷ others (cache_after most before) d n) (let q = same_cap most before in omega arith), same_entry-refl (d, n)) refl
  near most (Look e m ∷ since) before leave fits = near_looked (cache_after most (since ++ Note d n x ∷ before)) (suc (length since)) e m (near most since before leave.1 (omega arith))
  near most (Note e m y ∷ since) before leave fits =
      near_noted (cache_after most (since ++ Note d n x ∷ before)) (suc (length since)) e m y (let q = same_cap most (since ++ Note d n x ∷ before) in omega arith) leave.0 (near most since before leave.1 (omega arith))
  near most (Forget e m ∷ since) before leave fits =
      more_of_them (same_entry (d, n)) (suc (length since)) (others (cache_after most (since ++ Note d n x ∷ before)) e m) x
      (near_others (cache_after most (since ++ Note d n x ∷ before)) (suc (length since)) e m leave.0 (near most since before leave.1 (omega arith)))

  pub kept : (most : ℕ) (since before : List Call) → AllByRecursion (λ call. changes call d n ≡ false) since → length since < most → found (cache_after most (since ++ Note d n x ∷ before)) d n ≡ Some x
  kept most since before leave fits = lookup-take (same_entry (d, n)) (suc (length since)) (cache_after most (since ++ Note d n x ∷ before)).entries x (near most since before leave fits)
