-- One step up from a node.
use Rattle.std.proofs.Common.{◌≡◌, ℕ, suc, ◌+◌, ◌-◌, ◌<◌, List, [], ◌∷◌, ◌++◌, append_assoc, Option, Some, None, refl, ap, sym, ◌∙◌, arith}
use Rattle.std.specs.Prelude.{is_some}
use Rattle.std.specs.Option.{option_map}
use Rattle.std.proofs.lemmas.Bool.{ne_eqb}
use Rattle.tree_model.specs.declared.inode.Inode.{Inode}
use Rattle.tree_model.specs.declared.inode.Place.{Place}
use Rattle.tree_model.specs.State.{place_at, names_within}

pub is_some-option_map : {A B : Type 0} (f : A → B) (o : Option A) → is_some (option_map f o) ≡ is_some o
is_some-option_map f None = refl
is_some-option_map f (Some x) = refl

-- one parent up
pub names_within_up : (n k : ℕ) (nodes : List Inode) (r x : ℕ) (place : Place) → k < n → (x ≡ r → ⊥) → place_at nodes x ≡ Some place → names_within (n - k) nodes r x ≡ option_map (λ names. place.name ∷ names) (names_within (n - (k + 1)) nodes r place.parent)
names_within_up n k nodes r x place more apart at =
    let left : n - k ≡ suc (n - (k + 1)) = omega arith in rw (left, ne_eqb x r apart, at) refl

pub is_within_up : (n k : ℕ) (nodes : List Inode) (r x : ℕ) (place : Place) → k < n → (x ≡ r → ⊥) → place_at nodes x ≡ Some place → is_some (names_within (n - k) nodes r x) ≡ is_some (names_within (n - (k + 1)) nodes r place.parent)
is_within_up n k nodes r x place more apart at =
    ap is_some (names_within_up n k nodes r x place more apart at) ∙ is_some-option_map (λ names. place.name ∷ names) (names_within (n - (k + 1)) nodes r place.parent)

appended : (names : List (List ℕ)) (n : List ℕ) (o : Option (List (List ℕ))) → option_map (λ rest. names ++ rest) (option_map (λ rest. n ∷ rest) o) ≡ option_map (λ rest. (names ++ n ∷ []) ++ rest) o
appended names n None = refl
appended names n (Some rest) = ap Some (sym (append_assoc names (n ∷ []) rest))

-- one parent up, with the names passed so far
pub names_within_more : (n k : ℕ) (nodes : List Inode) (r x : ℕ) (place : Place) (names : List (List ℕ)) → k < n → (x ≡ r → ⊥) → place_at nodes x ≡ Some place → option_map (λ rest. names ++ rest) (names_within (n - k) nodes r x) ≡ option_map (λ rest. (names ++ place.name ∷ []) ++ rest) (names_within (n - (k + 1)) nodes r place.parent)
names_within_more n k nodes r x place names more apart at =
    ap (option_map (λ rest. names ++ rest)) (names_within_up n k nodes r x place more apart at) ∙ appended names place.name (names_within (n - (k + 1)) nodes r place.parent)
