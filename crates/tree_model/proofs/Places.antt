-- What a node is and where it stands, once a node has another place and once there is one more node.
use Rattle.std.proofs.Common.{◌≡◌, ◌≢◌, ◌⊎◌, inl, inr, ⊎_elim, ℕ, zero, suc, ◌<◌, List, [], ◌∷◌, ◌++◌, length, Option, Some, refl, ap, arith}
use Rattle.std.proofs.lemmas.Option.{none-some, same_Some}
pub use Rattle.path_text.proofs.Lists.{slice_get-last}
use Rattle.tree_model.specs.declared.inode.Inode.{Inode}
use Rattle.tree_model.specs.declared.inode.Object.{Object}
use Rattle.tree_model.specs.declared.inode.Place.{Place}
use Rattle.tree_model.specs.State.{object_at, place_at, put_at}

-- what stands somewhere is a node
pub place_at-within : (nodes : List Inode) (x : ℕ) (place : Place) → place_at nodes x ≡ Some place → x < length nodes
place_at-within [] x place e = absurd (none-some place e)
place_at-within (inode ∷ nodes) zero place e = omega arith
place_at-within (inode ∷ nodes) (suc x) place e = let h = place_at-within nodes x place e in omega arith

pub length-put_at : (nodes : List Inode) (c : ℕ) (p : Option Place) → length (put_at nodes c p) ≡ length nodes
length-put_at [] c p = refl
length-put_at (inode ∷ nodes) zero p = refl
length-put_at (inode ∷ nodes) (suc c) p = ap suc (length-put_at nodes c p)

pub object_at-put_at : (nodes : List Inode) (c : ℕ) (p : Option Place) (x : ℕ) → object_at (put_at nodes c p) x ≡ object_at nodes x
object_at-put_at [] c p x = refl
object_at-put_at (inode ∷ nodes) zero p zero = refl
object_at-put_at (inode ∷ nodes) zero p (suc x) = refl
object_at-put_at (inode ∷ nodes) (suc c) p zero = refl
object_at-put_at (inode ∷ nodes) (suc c) p (suc x) = object_at-put_at nodes c p x

pub place_at-put_at : (nodes : List Inode) (c : ℕ) (p : Option Place) → c < length nodes → place_at (put_at nodes c p) c ≡ p
place_at-put_at [] c p h = absurd (omega arith)
place_at-put_at (inode ∷ nodes) zero p h = refl
place_at-put_at (inode ∷ nodes) (suc c) p h = place_at-put_at nodes c p (omega arith)

pub place_at-put_other : (nodes : List Inode) (c : ℕ) (p : Option Place) (x : ℕ) → x ≢ c → place_at (put_at nodes c p) x ≡ place_at nodes x
place_at-put_other [] c p x ne = refl
place_at-put_other (inode ∷ nodes) zero p zero ne = absurd (ne refl)
place_at-put_other (inode ∷ nodes) zero p (suc x) ne = refl
place_at-put_other (inode ∷ nodes) (suc c) p zero ne = refl
place_at-put_other (inode ∷ nodes) (suc c) p (suc x) ne = place_at-put_other nodes c p x (λ e. ne (ap suc e))

-- ---- one more node

pub object_at-append : (nodes more : List Inode) (x : ℕ) (object : Object) → object_at nodes x ≡ Some object → object_at (nodes ++ more) x ≡ Some object
object_at-append [] more x object e = absurd (none-some object e)
object_at-append (inode ∷ nodes) more zero object e = e
object_at-append (inode ∷ nodes) more (suc x) object e = object_at-append nodes more x object e

pub place_at-append : (nodes more : List Inode) (x : ℕ) (place : Place) → place_at nodes x ≡ Some place → place_at (nodes ++ more) x ≡ Some place
place_at-append [] more x place e = absurd (none-some place e)
place_at-append (inode ∷ nodes) more zero place e = e
place_at-append (inode ∷ nodes) more (suc x) place e = place_at-append nodes more x place e

pub object_at-within : (nodes : List Inode) (x : ℕ) (object : Object) → object_at nodes x ≡ Some object → x < length nodes
object_at-within [] x object e = absurd (none-some object e)
object_at-within (inode ∷ nodes) zero object e = omega arith
object_at-within (inode ∷ nodes) (suc x) object e = let h = object_at-within nodes x object e in omega arith

-- what is where in a list with one element more: as before, or the one
pub place_at-one_more : (nodes : List Inode) (inode : Inode) (x : ℕ) (place : Place) → place_at (nodes ++ inode ∷ []) x ≡ Some place
    → (place_at nodes x ≡ Some place) ⊎ ((x ≡ length nodes) × (inode.place ≡ Some place))
place_at-one_more [] inode zero place e = inr (refl, e)
place_at-one_more [] inode (suc x) place e = absurd (none-some place e)
place_at-one_more (first ∷ nodes) inode zero place e = inl e
place_at-one_more (first ∷ nodes) inode (suc x) place e =
    ⊎_elim (λ h. inl h) (λ h. inr (ap suc h.0, h.1)) (place_at-one_more nodes inode x place e)

pub object_at-one_more : (nodes : List Inode) (inode : Inode) (x : ℕ) (object : Object) → object_at (nodes ++ inode ∷ []) x ≡ Some object
    → (object_at nodes x ≡ Some object) ⊎ ((x ≡ length nodes) × (inode.object ≡ object))
object_at-one_more [] inode zero object e = inr (refl, same_Some inode.object object e)
object_at-one_more [] inode (suc x) object e = absurd (none-some object e)
object_at-one_more (first ∷ nodes) inode zero object e = inl e
object_at-one_more (first ∷ nodes) inode (suc x) object e =
    ⊎_elim (λ h. inl h) (λ h. inr (ap suc h.0, h.1)) (object_at-one_more nodes inode x object e)

pub place_at-last : (nodes : List Inode) (inode : Inode) → place_at (nodes ++ inode ∷ []) (length nodes) ≡ inode.place
place_at-last [] inode = refl
place_at-last (first ∷ nodes) inode = place_at-last nodes inode

-- the old nodes stand where they stood
pub place_at-append_within : (nodes more : List Inode) (x : ℕ) → x < length nodes → place_at (nodes ++ more) x ≡ place_at nodes x
place_at-append_within [] more x h = absurd (omega arith)
place_at-append_within (inode ∷ nodes) more zero h = refl
place_at-append_within (inode ∷ nodes) more (suc x) h = place_at-append_within nodes more x (omega arith)
