-- Handles of one actor put among those of others: what the others see of theirs.
use Rattle.std.proofs.Common.{◌≡◌, ◌≢◌, ℕ, zero, suc, ◌+◌, Bool, false, cond, List, [], ◌∷◌, ◌++◌, length, Option, Some, None, slice_get, slice_set, refl, sym, ap, ◌∙◌, ne_eqb, arith}
use Rattle.std.specs.List.{count_by}
use Rattle.std.proofs.lemmas.List.Sums.{sum_by-cons}
use Rattle.tree_model.specs.declared.inode.OpenHandle.{OpenHandle}
use Rattle.tree_model.specs.Steps.{is_held_by, node_held}
use Rattle.tree_model.proofs.StepLaws.{held-is}

-- nobody but a has it open
abbrev pub IsNoOthers : ℕ → Option OpenHandle → Type 0
IsNoOthers a o = (b : ℕ) → b ≢ a → (node_held b (Some o) ≡ None) × (is_held_by b o ≡ false)

-- the two are the same to everybody but a
abbrev pub AreSameToOthers : ℕ → Option OpenHandle → Option OpenHandle → Type 0
AreSameToOthers a x y = (b : ℕ) → b ≢ a → (node_held b (Some y) ≡ node_held b (Some x)) × (is_held_by b y ≡ is_held_by b x)

-- the second list is the first one, with so many handles of a's put in between
pub data Woven (a : ℕ) : ℕ → List (Option OpenHandle) → List (Option OpenHandle) → Type 0 where
  none : Woven a 0 [] []
  both : {k : ℕ} {xs ys : List (Option OpenHandle)} (x y : Option OpenHandle) → AreSameToOthers a x y → Woven a k xs ys
      → Woven a k (x ∷ xs) (y ∷ ys)
  own : {k : ℕ} {xs ys : List (Option OpenHandle)} (y : Option OpenHandle) → IsNoOthers a y → Woven a k xs ys
      → Woven a (suc k) xs (y ∷ ys)

pub same_to_others : (a : ℕ) (x : Option OpenHandle) → AreSameToOthers a x x
same_to_others a x b other = (refl, refl)

-- the number in the second list of a handle of the first
pub index : {a k : ℕ} {xs ys : List (Option OpenHandle)} → Woven a k xs ys → ℕ → ℕ
index none h = h
index (both x y same w) zero = zero
index (both x y same w) (suc h) = suc (index w h)
index (own y is w) h = suc (index w h)

pub not_woven : (a : ℕ) (xs : List (Option OpenHandle)) → Woven a 0 xs xs
not_woven a [] = none
not_woven a (x ∷ xs) = both x x (same_to_others a x) (not_woven a xs)

pub woven_length : {a k : ℕ} {xs ys : List (Option OpenHandle)} → Woven a k xs ys → length ys ≡ length xs + k
woven_length none = refl
woven_length (both x y same w) = omega (arith, woven_length w)
woven_length (own y is w) = omega (arith, woven_length w)

pub woven_get : {a k : ℕ} {xs ys : List (Option OpenHandle)} (w : Woven a k xs ys) (b h : ℕ) → b ≢ a
    → node_held b (slice_get ys (index w h)) ≡ node_held b (slice_get xs h)
unfolding index
woven_get none b h other = refl
woven_get (both x y same w) b zero other = (same b other).0
woven_get (both x y same w) b (suc h) other = woven_get w b h other
woven_get (own y is w) b h other = woven_get w b h other

pub woven_count : {a k : ℕ} {xs ys : List (Option OpenHandle)} → Woven a k xs ys → (b : ℕ) → b ≢ a
    → count_by (is_held_by b) ys ≡ count_by (is_held_by b) xs
woven_count none b other = refl
woven_count (both {xs = xs} {ys = ys} x y same w) b other =
    sum_by-cons (λ o. cond (is_held_by b o) 1 0) y ys
    ∙ ap (λ t. cond t 1 0 + count_by (is_held_by b) ys) (same b other).1
    ∙ ap (λ n. cond (is_held_by b x) 1 0 + n) (woven_count w b other)
    ∙ sym (sum_by-cons (λ o. cond (is_held_by b o) 1 0) x xs)
woven_count (own {xs = xs} {ys = ys} y is w) b other =
    sum_by-cons (λ o. cond (is_held_by b o) 1 0) y ys
    ∙ ap (λ t. cond t 1 0 + count_by (is_held_by b) ys) (is b other).1
    ∙ omega (arith, woven_count w b other)

-- ---- another closes one, or opens one

pub woven_closed : {a k : ℕ} {xs ys : List (Option OpenHandle)} (w : Woven a k xs ys) (h : ℕ)
    → Woven a k (slice_set xs h None) (slice_set ys (index w h) None)
unfolding index
woven_closed none h = none
woven_closed {a} (both x y same w) zero = both None None (same_to_others a None) w
woven_closed (both x y same w) (suc h) = both x y same (woven_closed w h)
woven_closed (own y is w) h = own y is (woven_closed w h)

pub woven_opened : {a k : ℕ} {xs ys : List (Option OpenHandle)} → Woven a k xs ys → (z : Option OpenHandle)
    → Woven a k (xs ++ z ∷ []) (ys ++ z ∷ [])
woven_opened {a} none z = both z z (same_to_others a z) none
woven_opened (both x y same w) z = both x y same (woven_opened w z)
woven_opened (own y is w) z = own y is (woven_opened w z)

-- ---- the actor opens one, or closes one of its own

pub own_is_no_others : (a x : ℕ) → IsNoOthers a (Some (record { actor = a; node = x }))
own_is_no_others a x b other = (
  ap (λ t. cond t (Some x) None) (ne_eqb a b (λ q. other (sym q))),
  ne_eqb a b (λ q. other (sym q)),
)

pub none_is_no_others : (a : ℕ) → IsNoOthers a None
none_is_no_others a b other = (refl, refl)

pub woven_own : {a k : ℕ} {xs ys : List (Option OpenHandle)} → Woven a k xs ys → (x : ℕ)
    → Woven a (suc k) xs (ys ++ Some (record { actor = a; node = x }) ∷ [])
woven_own {a} none x = own (Some (record { actor = a; node = x })) (own_is_no_others a x) none
woven_own (both z y same w) x = both z y same (woven_own w x)
woven_own (own y is w) x = own y is (woven_own w x)

closed_is_same : (a : ℕ) (x y : Option OpenHandle) (node : ℕ) → AreSameToOthers a x y → node_held a (Some y) ≡ Some node
    → AreSameToOthers a x None
closed_is_same a x y node same is b other =
    let mine = ap (λ o. o) (held-is a (Some y) node is) in
    let no = own_is_no_others a node b other in (
      sym (ap (node_held b) mine ∙ no.0) ∙ (same b other).0,
      sym (ap (held_by b) mine ∙ no.1) ∙ (same b other).1,
    )
  where
    held_by : ℕ → Option (Option OpenHandle) → Bool
    held_by b None = false
    held_by b (Some o) = is_held_by b o

pub woven_own_closed : {a k : ℕ} {xs ys : List (Option OpenHandle)} → Woven a k xs ys → (h x : ℕ)
    → node_held a (slice_get ys h) ≡ Some x → Woven a k xs (slice_set ys h None)
woven_own_closed none h x e = none
woven_own_closed {a} (both z y same w) zero x e = both z None (closed_is_same a z y x same e) w
woven_own_closed (both z y same w) (suc h) x e = both z y same (woven_own_closed w h x e)
woven_own_closed {a} (own y is w) zero x e = own None (none_is_no_others a) w
woven_own_closed (own y is w) (suc h) x e = own y is (woven_own_closed w h x e)
