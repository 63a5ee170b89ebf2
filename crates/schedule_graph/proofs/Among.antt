-- Members of lists, each once.
use Rattle.std.specs.Prelude.{◌≡◌, List, [], ◌∷◌, ◌++◌, map}
use Rattle.std.proofs.Common.{◌⊎◌, inl, inr, sym, ap, subst, ⊎_elim}
use Rattle.schedule_graph.specs.Counted.{IsAmong, EachOnce}

pub among_left : {A : Type 0} (x : A) (ys zs : List A) → IsAmong x ys → IsAmong x (ys ++ zs)
among_left x [] zs h = absurd h
among_left x (y ∷ ys) zs h = ⊎_elim (λ e. inl e) (λ q. inr (among_left x ys zs q)) h

pub among_right : {A : Type 0} (x : A) (ys zs : List A) → IsAmong x zs → IsAmong x (ys ++ zs)
among_right x [] zs h = h
among_right x (y ∷ ys) zs h = inr (among_right x ys zs h)

pub among_split : {A : Type 0} (x : A) (ys zs : List A) → IsAmong x (ys ++ zs) → IsAmong x ys ⊎ IsAmong x zs
among_split x [] zs h = inr h
among_split x (y ∷ ys) zs h = ⊎_elim (λ e. inl (inl e)) (λ q. ⊎_elim (λ r. inl (inr r)) (λ r. inr r) (among_split x ys zs q)) h

-- no element of the one is one of the other
pub once_joined : {A : Type 0} (ys zs : List A) → EachOnce ys → EachOnce zs → ((x : A) → IsAmong x ys → IsAmong x zs → ⊥) → EachOnce (ys ++ zs)
once_joined [] zs h k apart = k
once_joined (y ∷ ys) zs h k apart =
    ((λ q. ⊎_elim (λ r. h.0 r) (λ r. apart y (inl (λ i. y)) r) (among_split y ys zs q)), once_joined ys zs h.1 k (λ x r. apart x (inr r)))

-- ---- what a map makes of them

pub among_mapped : {A : Type 0} (f : A → A) (x : A) (ys : List A) → IsAmong x ys → IsAmong (f x) (map f ys)
among_mapped f x [] h = h
among_mapped f x (y ∷ ys) h = ⊎_elim (λ e. inl (ap f e)) (λ q. inr (among_mapped f x ys q)) h

pub among_unmapped : {A : Type 0} (f : A → A) (y : A) (xs : List A) → IsAmong y (map f xs) → (x : A) × (IsAmong x xs × (y ≡ f x))
among_unmapped f y [] h = absurd h
among_unmapped f y (x ∷ xs) h =
    ⊎_elim (λ e. (x, (inl (λ i. x), e))) (λ q. let found = among_unmapped f y xs q in (found.0, (inr found.1.0, found.1.1))) h

pub once_mapped : {A : Type 0} (f : A → A) (same : (x y : A) → f x ≡ f y → x ≡ y) (xs : List A) → EachOnce xs → EachOnce (map f xs)
once_mapped f same [] h = tt
once_mapped f same (x ∷ xs) h =
    ((λ q. let found = among_unmapped f (f x) xs q in h.0 (subst (λ y. IsAmong y xs) (sym (same x found.0 found.1.1)) found.1.0)), once_mapped f same xs h.1)
