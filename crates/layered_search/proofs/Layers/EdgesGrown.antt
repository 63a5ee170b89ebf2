-- Lists that grow: what was there stays in its place.
use Rattle.std.specs.Prelude.{◌≡◌, List, [], ◌∷◌, ◌++◌}
use Rattle.std.proofs.Common.{subst}
use Rattle.layered_search.specs.Distinct.{Keeps}
use Rattle.layered_search.proofs.Places.{get_left}

pub keeps_on : {A : Type 0} (xs ys zs : List A) → Keeps xs ys → Keeps ys zs → Keeps xs zs
keeps_on xs ys zs first then k x e = then k x (first k x e)

pub keeps_push : {A : Type 0} (xs : List A) (y : A) → Keeps xs (xs ++ y ∷ [])
keeps_push xs y k x e = get_left xs y k x e

-- one is put after those that were there
pub pushed_on : {A : Type 0} (old mid new : List A) (x : A) → new ≡ mid ++ x ∷ [] → mid ≡ old → new ≡ old ++ x ∷ []
pushed_on old mid new x e same = subst (λ xs. new ≡ xs ++ x ∷ []) same e
