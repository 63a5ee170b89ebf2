-- What is read off one tree: which node stands at an entry, that it is something, and where a node stands.
use Rattle.std.proofs.Common.{◌≡◌, ℕ, List, Option, Some, None, refl, sym, ap, ◌∙◌, slice_get}
use Rattle.std.specs.Option.{option_map, option_and_then}
use Rattle.std.proofs.lemmas.Option.{none-some}
use Rattle.tree_model.specs.declared.inode.Inode.{Inode}
use Rattle.tree_model.specs.declared.inode.Place.{Place}
use Rattle.tree_model.specs.State.{place_at, object_at}

-- what has a place is something
pub object_at-place : (nodes : List Inode) (x : ℕ) (place : Place) → place_at nodes x ≡ Some place → object_at nodes x ≡ None → ⊥
object_at-place nodes x place p o = on (slice_get nodes x) refl
  where
    on : (i : Option Inode) → slice_get nodes x ≡ i → ⊥
    on None e = none-some place (sym (ap (option_and_then (λ inode. inode.place)) e) ∙ p)
    on (Some inode) e = none-some inode.object (sym o ∙ ap (option_map (λ j. j.object)) e)
