-- A tree with one directory more: it is found, it is empty, and what stood stands.
use Rattle.std.proofs.Common.{◌≡◌, ⊎_elim, ℕ, ◌==◌, ◌&&◌, true, false, not, List, [], ◌∷◌, ◌++◌, length, Option, Some, None, is_some, refl, sym, ap, ◌∙◌, arith}
use Rattle.std.specs.Option.{option_map}
use Rattle.std.proofs.lemmas.Bool.{false≢true}
use Rattle.std.proofs.lemmas.Option.{same_Some}
use Rattle.std.proofs.Math.Bool.{and-false}
pub use Rattle.path_text.proofs.Lists.{length-one_more}
use Rattle.tree_model.specs.declared.inode.Inode.{Inode}
use Rattle.tree_model.specs.declared.inode.Object.{Object}
use Rattle.tree_model.specs.declared.inode.Object.TheVariants.{Dir}
use Rattle.tree_model.specs.State.{TOP, Stands, object_at, place_at, child, is_dir, is_directory, is_gone}
use Rattle.tree_model.specs.Trees.{IsTree}
use Rattle.tree_model.proofs.Places.{object_at-append, place_at-last, place_at-one_more, slice_get-last}
use Rattle.tree_model.proofs.Children.{entry, place_at-child, child-entry}
use Rattle.tree_model.proofs.StepsKept.{directory-within}
use Rattle.tree_model.proofs.Standing.{Stands-append}

pub dir_stays : (nodes others : List Inode) (x : ℕ) → is_dir nodes x ≡ true → is_dir (nodes ++ others) x ≡ true
dir_stays nodes others x e = on (object_at nodes x) refl
  where
    on : (o : Option Object) → object_at nodes x ≡ o → is_dir (nodes ++ others) x ≡ true
    on None q = absurd (false≢true (sym (ap is_directory q) ∙ e))
    on (Some what) q = ap is_directory (object_at-append nodes others x what q) ∙ ap is_directory (sym q) ∙ e

module _ (nodes : List Inode) (tree : IsTree nodes) (d : ℕ) (n : List ℕ) (dir : is_dir nodes d ≡ true) where
  abbrev pub new_inode : Inode
  new_inode = record { object = Dir; place = Some (record { parent = d; name = n }) }

  abbrev pub with_new : List Inode
  with_new = nodes ++ new_inode ∷ []

  pub new_is_dir : object_at with_new (length nodes) ≡ Some Dir
  new_is_dir = ap (option_map (λ (i : Inode). i.object)) (slice_get-last nodes new_inode)

  new_stands_there : place_at with_new (length nodes) ≡ Some (entry d n)
  new_stands_there = place_at-last nodes new_inode

  pub new_not_gone : is_gone with_new (length nodes) ≡ false
  new_not_gone = ap (λ o. not (length nodes == TOP) && not (is_some o)) new_stands_there ∙ and-false (not (length nodes == TOP))

  pub new_is_found : IsTree with_new → child with_new d n ≡ Some (length nodes)
  new_is_found t = child-entry with_new t d n (length nodes) new_stands_there

  no_dir_yet : is_dir nodes (length nodes) ≡ true → ⊥
  no_dir_yet e = let less = directory-within nodes (length nodes) e in omega (arith, less)

  pub new_is_empty : (m : List ℕ) → child with_new (length nodes) m ≡ None
  new_is_empty m = on (child with_new (length nodes) m) refl
    where
      itself : Some (entry d n) ≡ Some (entry (length nodes) m) → ⊥
      itself q = no_dir_yet (ap (λ x. is_dir nodes x) (sym (ap (λ p. p.parent) (same_Some (entry d n) (entry (length nodes) m) q))) ∙ dir)

      on : (o : Option ℕ) → child with_new (length nodes) m ≡ o → child with_new (length nodes) m ≡ None
      on None e = e
      on (Some c) e = absurd (⊎_elim
          (λ h. no_dir_yet (tree.parents_are_dirs c (entry (length nodes) m) h))
          (λ h. itself h.1)
          (place_at-one_more nodes new_inode c (entry (length nodes) m) (place_at-child with_new (length nodes) m c e)))

  pub new_stands : (r : ℕ) (names : List (List ℕ)) → is_dir nodes r ≡ true → Stands nodes r d names → Stands with_new r (length nodes) (n ∷ names)
  new_stands r names root st =
      (λ e. no_dir_yet (ap (λ x. is_dir nodes x) e ∙ root), (d, (new_stands_there, Stands-append nodes (new_inode ∷ []) r d names st)))
