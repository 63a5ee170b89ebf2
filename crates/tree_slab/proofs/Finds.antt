-- What is found after a call, by what was found before it.
use Rattle.std.proofs.Common.{◌≡◌, ◌≢◌, ◌⊎◌, inl, inr, ℕ, zero, suc, Bool, true, false, cond, not, List, [], ◌∷◌, take, Option, Some, None, refl, sym, ap, ◌∙◌}
use Rattle.std.specs.Option.{option_map_or}
use Rattle.std.specs.Map.{lookup}
use Rattle.std.proofs.lemmas.Bool.{false≢true}
use Rattle.std.proofs.lemmas.Map.Entries.{lookup-filter-keys}
use Rattle.tree_slab.specs.Cache.{Cache, same_entry, found, others, looked, noted, forgotten}
use Rattle.tree_slab.proofs.CacheKeys.{Key, key, same_entry-true, same_entry-refl, same_entry-flips}
use Rattle.tree_slab.proofs.Lists.{Entry}

pub found-others : (c : Cache) (e : ℕ) (m : List ℕ) (d : ℕ) (n : List ℕ) (b : Bool) → same_entry (e, m) (d, n) ≡ b → lookup (same_entry (d, n)) (others c e m) ≡ cond (not b) (found c d n) None
found-others c e m d n b is = lookup-filter-keys (same_entry (d, n)) (λ k. not (same_entry (e, m) k)) (not b)
    (λ k t. ap (λ l. not (same_entry (e, m) l)) (sym (same_entry-true (d, n) k t)) ∙ ap not is) c.entries

pub lookup-take : (test : Key → Bool) (count : ℕ) (es : List Entry) (x : Option ℕ) → lookup test (take count es) ≡ Some x → lookup test es ≡ Some x
lookup-take test zero es x h = cc
lookup-take test (suc count) [] x h = h
lookup-take test (suc count) (e ∷ es) x h = by (lookup-take test count es x) (test e.0) h
  where
    by : (lookup test (take count es) ≡ Some x → lookup test es ≡ Some x) → (b : Bool) → cond b (Some e.1) (lookup test (take count es)) ≡ Some x → cond b (Some e.1) (lookup test es) ≡ Some x
    by rest true t = t
    by rest false t = rest t

-- an entry put before the others is found, and else what was
pub found-first : (c : Cache) (e : ℕ) (m : List ℕ) (y : Option ℕ) (d : ℕ) (n : List ℕ) (x : Option ℕ) (b : Bool) → same_entry (e, m) (d, n) ≡ b
    → lookup (same_entry (d, n)) (((e, m), y) ∷ others c e m) ≡ Some x → cond b (Some y) (found c d n) ≡ Some x
found-first c e m y d n x true is h = sym (rw (same_entry-flips (d, n) (e, m), is) refl) ∙ h
found-first c e m y d n x false is h = sym (found-others c e m d n false is) ∙ sym (rw (same_entry-flips (d, n) (e, m), is) refl) ∙ h

pub found-looked : (c : Cache) (e : ℕ) (m : List ℕ) (d : ℕ) (n : List ℕ) (x : Option ℕ) → found (looked c e m) d n ≡ Some x → found c d n ≡ Some x
found-looked c e m d n x h = by (found c e m) refl h
  where
    same : (y : Option ℕ) → found c e m ≡ Some y → (b : Bool) → same_entry (e, m) (d, n) ≡ b → cond b (Some y) (found c d n) ≡ Some x → found c d n ≡ Some x
    same y was true is t = ap (λ k. found c k.0 k.1) (sym (same_entry-true (e, m) (d, n) is)) ∙ was ∙ t
    same y was false is t = t

    by : (o : Option (Option ℕ)) → found c e m ≡ o → found (option_map_or (λ y. record { entries = ((e, m), y) ∷ others c e m; cap = c.cap }) o c) d n ≡ Some x → found c d n ≡ Some x
    by None was t = t
    by (Some y) was t = same y was (same_entry (e, m) (d, n)) refl (found-first c e m y d n x (same_entry (e, m) (d, n)) refl t)

pub found-noted : (c : Cache) (e : ℕ) (m : List ℕ) (y : Option ℕ) (d : ℕ) (n : List ℕ) (x : Option ℕ) → found (noted c e m y) d n ≡ Some x → ((key e m ≡ key d n) × (y ≡ x)) ⊎ (found c d n ≡ Some x)
found-noted c e m y d n x h = by (same_entry (e, m) (d, n)) refl (found-first c e m y d n x (same_entry (e, m) (d, n)) refl (lookup-take (same_entry (d, n)) c.cap (((e, m), y) ∷ others c e m) x h))
  where
    by : (b : Bool) → same_entry (e, m) (d, n) ≡ b → cond b (Some y) (found c d n) ≡ Some x → ((key e m ≡ key d n) × (y ≡ x)) ⊎ (found c d n ≡ Some x)
    by true is t = inl (same_entry-true (e, m) (d, n) is, cc)
    by false is t = inr t

pub found-forgotten : (c : Cache) (e : ℕ) (m : List ℕ) (d : ℕ) (n : List ℕ) (x : Option ℕ) → found (forgotten c e m) d n ≡ Some x → (key e m ≢ key d n) × (found c d n ≡ Some x)
found-forgotten c e m d n x h = by (same_entry (e, m) (d, n)) refl (sym (found-others c e m d n (same_entry (e, m) (d, n)) refl) ∙ h)
  where
    by : (b : Bool) → same_entry (e, m) (d, n) ≡ b → cond (not b) (found c d n) None ≡ Some x → (key e m ≢ key d n) × (found c d n ≡ Some x)
    by true is t = cc
    by false is t = ((λ q. false≢true (sym is ∙ ap (λ k. same_entry (e, m) k) (sym q) ∙ same_entry-refl (e, m))), t)
