-- What a write of a node's place leaves.
use Rattle.std.proofs.Common.{◌≡◌, ℕ, zero, suc, ◌≤◌, List, [], ◌∷◌, length, get_or, set, Option, refl, ap, arith}
use Rattle.tree_model.specs.declared.inode.Inode.{Inode}
use Rattle.tree_model.specs.declared.inode.Place.{Place}
use Rattle.tree_model.specs.State.{put_at}

-- a write of the place of the node at an index
pub put_at_from_set : (nodes : List Inode) (i : ℕ) (d : Inode) (place : Option Place) → set nodes i (record { object = (get_or nodes i d).object; place = place }) ≡ put_at nodes i place
put_at_from_set [] i d place = refl
put_at_from_set (inode ∷ nodes) zero d place = refl
put_at_from_set (inode ∷ nodes) (suc i) d place = ap (λ rest. inode ∷ rest) (put_at_from_set nodes i d place)

pub put_at_past : (nodes : List Inode) (i : ℕ) (place : Option Place) → length nodes ≤ i → put_at nodes i place ≡ nodes
put_at_past [] i place past = refl
put_at_past (inode ∷ nodes) zero place past = absurd (omega arith)
put_at_past (inode ∷ nodes) (suc i) place past = ap (λ rest. inode ∷ rest) (put_at_past nodes i place (omega arith))
