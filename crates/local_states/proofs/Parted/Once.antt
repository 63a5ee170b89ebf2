-- Lists in which nothing stands twice, and one more in them.
use Rattle.std.specs.Prelude.{◌≡◌, ℕ, List, [], ◌∷◌, ◌++◌, map, Some, slice_get}
use Rattle.std.proofs.Common.{sym, ap, ◌∙◌, ⊎_elim}
use Rattle.std.proofs.lemmas.List.{map-append}
use Rattle.layered_search.proofs.Places.{get_push}
use Rattle.local_states.specs.Distinct.{AreEachOnce}

pub once_more : {A : Type 0} (xs : List A) (y : A) → AreEachOnce xs → ((k : ℕ) → slice_get xs k ≡ Some y → ⊥)
    → AreEachOnce (xs ++ y ∷ [])
once_more xs y once new k l x e q =
    ⊎_elim (λ h. ⊎_elim (λ p. once k l x h p) (λ p. absurd (new k (h ∙ ap Some p.1))) (get_push xs y l x q))
    (λ h. ⊎_elim (λ p. absurd (new l (p ∙ ap Some h.1))) (λ p. h.0 ∙ sym p.0) (get_push xs y l x q))
    (get_push xs y k x e)

pub map_push : {A B : Type 0} (f : A → B) (xs new : List A) (x : A) (y : B) → new ≡ xs ++ x ∷ [] → f x ≡ y
    → map f new ≡ map f xs ++ y ∷ []
map_push f xs new x y e q = ap (map f) e ∙ (map-append f xs (x ∷ []) ∙ ap (λ z. map f xs ++ z ∷ []) q)
