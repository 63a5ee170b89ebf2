-- What stands where in a list, in one with one more at its end, and in a mapped one.
use Rattle.std.specs.Prelude.{◌≡◌, ◌<◌, ◌≤◌, ◌+◌, ◌⊎◌, ℕ, zero, suc, List, [], ◌∷◌, ◌++◌, length, take, drop, map, slice_get, Some, refl}
use Rattle.std.specs.Option.{option_map}
use Rattle.std.proofs.Common.{inl, inr, sym, ap, ◌∙◌, ⊎_elim, arith}
use Rattle.std.proofs.lemmas.Option.{same_Some, none-some, slice_get-map}
pub use Rattle.path_text.proofs.Lists.{length-slice_set as length_set, length-one_more as length_push, slice_get-append as get_first, slice_get-last as get_last, slice_get-some as within_some}
pub use Rattle.schedule_graph.proofs.Leading.{plus_swap, few_plus, last_of}
pub use Rattle.schedule_graph.proofs.Spreading.{get_set}

-- ---- equations with their ends given

pub ap_at : {A B : Type 0} (f : A → B) (x y : A) → x ≡ y → f x ≡ f y
ap_at f x y e = ap f e

pub join : {A : Type 0} (x y z : A) → x ≡ y → y ≡ z → x ≡ z
join x y z e e' = e ∙ e'

-- ---- places

pub at_or_below : (i n : ℕ) → i < n + 1 → (i < n) ⊎ (i ≡ n)
at_or_below i n lt = grind arith

-- ---- one more at the end

pub get_push : {A : Type 0} (xs : List A) (y : A) (k : ℕ) (x : A) → slice_get (xs ++ y ∷ []) k ≡ Some x
    → (slice_get xs k ≡ Some x) ⊎ ((k ≡ length xs) × (x ≡ y))
get_push [] y zero x e = inr (refl, sym (same_Some y x e))
get_push [] y (suc k) x e = absurd (none-some x e)
get_push (z ∷ zs) y zero x e = inl e
get_push (z ∷ zs) y (suc k) x e = ⊎_elim (λ h. inl h) (λ h. inr (ap suc h.0, h.1)) (get_push zs y k x e)

pub get_left : {A : Type 0} (xs : List A) (y : A) (k : ℕ) (x : A) → slice_get xs k ≡ Some x
    → slice_get (xs ++ y ∷ []) k ≡ Some x
get_left xs y = get_first xs (y ∷ [])

pub take_push : {A : Type 0} (xs : List A) (n : ℕ) (x : A) → slice_get xs n ≡ Some x
    → take (suc n) xs ≡ take n xs ++ x ∷ []
take_push [] n x e = absurd (none-some x e)
take_push (y ∷ ys) zero x e = ap (λ z. z ∷ []) (same_Some y x e)
take_push (y ∷ ys) (suc n) x e = ap (λ zs. y ∷ zs) (take_push ys n x e)

-- ---- the rest of a list

-- what stands at the front of the rest
pub front_of : {A : Type 0} (n : ℕ) (xs : List A) (x : A) (ys : List A) → x ∷ ys ≡ drop n xs
    → (slice_get xs n ≡ Some x) × (ys ≡ drop (suc n) xs)
front_of zero [] x ys e = cc
front_of zero (z ∷ zs) x ys e = (let q : z ≡ x = cc in ap (λ a. Some a) q, let q : ys ≡ zs = cc in q)
front_of (suc n) [] x ys e = cc
front_of (suc n) (z ∷ zs) x ys e = front_of n zs x ys e

pub none_left : {A : Type 0} (n : ℕ) (xs : List A) → length (drop n xs) ≡ 0 → length xs ≤ n
none_left zero xs e = omega arith
none_left (suc n) [] e = omega arith
none_left (suc n) (x ∷ xs) e = let le = none_left n xs e in omega arith

-- ---- mapped lists

pub mapped_to : {A B : Type 0} (f : A → B) (xs : List A) (k : ℕ) (x : A) → slice_get xs k ≡ Some x
    → slice_get (map f xs) k ≡ Some (f x)
mapped_to f xs k x e = slice_get-map f xs k ∙ ap (option_map f) e

pub mapped_from : {A B : Type 0} (f : A → B) (xs : List A) (k : ℕ) (y : B) → slice_get (map f xs) k ≡ Some y
    → (x : A) × ((slice_get xs k ≡ Some x) × (y ≡ f x))
mapped_from f [] k y e = absurd (none-some y e)
mapped_from f (z ∷ zs) zero y e = (z, (refl, sym (same_Some (f z) y e)))
mapped_from f (z ∷ zs) (suc k) y e = mapped_from f zs k y e
