-- A tree stays one where a node without children is taken out, where one or two nodes are hung elsewhere, and where one node more is hung.
use Rattle.std.proofs.Common.{◌≡◌, ◌≢◌, ⊎_elim, ℕ, zero, suc, Bool, true, false, not, ◌==◌, ◌&&◌, List, [], ◌∷◌, ◌++◌, length, Option, Some, None, is_some, refl, sym, ap, ◌∙◌, subst, eqb-true}
use Rattle.std.proofs.lemmas.Bool.{false≢true, cases_eq}
use Rattle.std.proofs.lemmas.Option.{none-some, same_Some}
use Rattle.tree_model.specs.declared.inode.Inode.{Inode}
use Rattle.tree_model.specs.declared.inode.Object.{Object}
use Rattle.tree_model.specs.declared.inode.Object.TheVariants.{Dir, Link}
use Rattle.tree_model.specs.declared.inode.Place.{Place}
use Rattle.tree_model.specs.State.{TOP, object_at, place_at, is_directory, is_dir, is_gone, put_at}
use Rattle.tree_model.specs.Trees.{Rooted, IsTree, HasPathText, top, below}
use Rattle.tree_model.proofs.Places.{object_at-put_at, place_at-put_other, object_at-append, object_at-within, object_at-one_more, place_at-append, place_at-append_within, place_at-last, place_at-one_more}
use Rattle.tree_model.proofs.Children.{entry}
use Rattle.tree_model.proofs.Standing.{Under, Under-itself, Under-child}

-- ---- a node without children is taken out

place_at-put_none : (nodes : List Inode) (e : ℕ) → place_at (put_at nodes e None) e ≡ None
place_at-put_none [] e = refl
place_at-put_none (inode ∷ nodes) zero = refl
place_at-put_none (inode ∷ nodes) (suc e) = place_at-put_none nodes e

-- what stands somewhere after it stood there before, and isn't the one
pub stood : (nodes : List Inode) (e x : ℕ) (place : Place) → place_at (put_at nodes e None) x ≡ Some place → (x ≢ e) × (place_at nodes x ≡ Some place)
stood nodes e x place p =
    let other : x ≢ e = λ q. none-some place (sym (place_at-put_none nodes e) ∙ ap (place_at (put_at nodes e None)) (sym q) ∙ p) in
    (other, sym (place_at-put_other nodes e None x other) ∙ p)

module _ (nodes : List Inode) (e : ℕ) (t : IsTree nodes) (childless : (x : ℕ) (place : Place) → place_at nodes x ≡ Some place → place.parent ≢ e) where
  still_rooted : {x : ℕ} → x ≢ e → Rooted nodes x → Rooted (put_at nodes e None) x
  still_rooted other top = top
  still_rooted {x} other (below place p r) =
      below place (place_at-put_other nodes e None x other ∙ p) (still_rooted (childless x place p) r)

  pub IsTree-taken_out : IsTree (put_at nodes e None)
  IsTree-taken_out =
      record {
        top_is_dir = object_at-put_at nodes e None TOP ∙ t.top_is_dir;
        top_is_free = free (place_at (put_at nodes e None) TOP) refl;
        parents_are_dirs = λ x place p. ap is_directory (object_at-put_at nodes e None place.parent) ∙ t.parents_are_dirs x place (stood nodes e x place p).1;
        rooted = λ x place p. let s = stood nodes e x place p in still_rooted s.0 (t.rooted x place s.1);
        apart = λ x y place p q. t.apart x y place (stood nodes e x place p).1 (stood nodes e y place q).1;
        links_have_texts = λ x text p. t.links_have_texts x text (sym (object_at-put_at nodes e None x) ∙ p);
      }
    where
      free : (o : Option Place) → place_at (put_at nodes e None) TOP ≡ o → place_at (put_at nodes e None) TOP ≡ None
      free None q = q
      free (Some place) q = absurd (none-some place (sym t.top_is_free ∙ (stood nodes e TOP place q).1))

-- ---- one or two nodes are hung elsewhere

-- the new nodes are the old ones but for the places of c and e, which may be one
pub record IsRehung (old new : List Inode) (c e : ℕ) (c_place e_place : Place) : Type 0 where
  pub objects : (x : ℕ) → object_at new x ≡ object_at old x
  pub others : (x : ℕ) → x ≢ c → x ≢ e → place_at new x ≡ place_at old x
  pub c_there : place_at new c ≡ Some c_place
  pub e_there : place_at new e ≡ Some e_place

-- where c and e may be hung
pub record MayHang (nodes : List Inode) (c e : ℕ) (place : Place) : Type 0 where
  pub in_directory : is_dir nodes place.parent ≡ true
  pub rooted : Rooted nodes place.parent
  pub outside_c : Under nodes c place.parent → ⊥
  pub outside_e : Under nodes e place.parent → ⊥
  pub entry_free : (x : ℕ) → x ≢ c → x ≢ e → place_at nodes x ≢ Some place

module _ (old new : List Inode) (c e : ℕ) (c_place e_place : Place)
    (t : IsTree old) (hung : IsRehung old new c e c_place e_place)
    (c_low : c ≢ TOP) (e_low : e ≢ TOP) (c_may : MayHang old c e c_place) (e_may : MayHang old c e e_place) (one : c_place ≡ e_place → c ≡ e) where
  -- what stands outside c and e keeps its way up
  outside_rooted : {y : ℕ} → (Under old c y → ⊥) → (Under old e y → ⊥) → Rooted old y → Rooted new y
  outside_rooted not_c not_e top = top
  outside_rooted {y} not_c not_e (below place p r) =
      below place
      (hung.others y (λ q. not_c (Under-itself old c y q)) (λ q. not_e (Under-itself old e y q)) ∙ p)
      (outside_rooted (λ u. not_c (Under-child old c y place p u)) (λ u. not_e (Under-child old e y place p u)) r)

  c_rooted : Rooted new c
  c_rooted = below c_place hung.c_there (outside_rooted c_may.outside_c c_may.outside_e c_may.rooted)

  e_rooted : Rooted new e
  e_rooted = below e_place hung.e_there (outside_rooted e_may.outside_c e_may.outside_e e_may.rooted)

  each_rooted : {y : ℕ} → Rooted old y → Rooted new y
  each_rooted top = top
  each_rooted {y} (below place p r) =
      ⊎_elim
      (λ q. subst (Rooted new) (sym q) c_rooted)
      (λ not_c. ⊎_elim
      (λ q. subst (Rooted new) (sym q) e_rooted)
      (λ not_e. below place (hung.others y not_c not_e ∙ p) (each_rooted r))
      (cases_eq y e))
      (cases_eq y c)

  -- where a node that stands somewhere now is, and how that came
  data Came (y : ℕ) (place : Place) : Type 0 where
    is_c : y ≡ c → place ≡ c_place → Came y place
    is_e : y ≡ e → place ≡ e_place → Came y place
    stayed : y ≢ c → y ≢ e → place_at old y ≡ Some place → Came y place

  came : (y : ℕ) (place : Place) → place_at new y ≡ Some place → Came y place
  came y place p =
      ⊎_elim
      (λ q. is_c q (same_Some place c_place (sym p ∙ ap (place_at new) q ∙ hung.c_there)))
      (λ not_c. ⊎_elim
      (λ q. is_e q (same_Some place e_place (sym p ∙ ap (place_at new) q ∙ hung.e_there)))
      (λ not_e. stayed not_c not_e (sym (hung.others y not_c not_e) ∙ p))
      (cases_eq y e))
      (cases_eq y c)

  in_directory_now : (y : ℕ) (place : Place) → Came y place → is_dir old place.parent ≡ true
  in_directory_now y place (is_c q r) = ap (λ k. is_dir old k.parent) r ∙ c_may.in_directory
  in_directory_now y place (is_e q r) = ap (λ k. is_dir old k.parent) r ∙ e_may.in_directory
  in_directory_now y place (stayed not_c not_e p) = t.parents_are_dirs y place p

  rooted_now : (y : ℕ) (place : Place) → Came y place → Rooted new y
  rooted_now y place (is_c q r) = subst (Rooted new) (sym q) c_rooted
  rooted_now y place (is_e q r) = subst (Rooted new) (sym q) e_rooted
  rooted_now y place (stayed not_c not_e p) = each_rooted (t.rooted y place p)

  apart_now : (x y : ℕ) (place : Place) → Came x place → Came y place → x ≡ y
  apart_now x y place (is_c q r) (is_c q' r') = q ∙ sym q'
  apart_now x y place (is_c q r) (is_e q' r') = q ∙ one (sym r ∙ r') ∙ sym q'
  apart_now x y place (is_c q r) (stayed not_c not_e p) = absurd (c_may.entry_free y not_c not_e (p ∙ ap Some r))
  apart_now x y place (is_e q r) (is_c q' r') = q ∙ sym (one (sym r' ∙ r)) ∙ sym q'
  apart_now x y place (is_e q r) (is_e q' r') = q ∙ sym q'
  apart_now x y place (is_e q r) (stayed not_c not_e p) = absurd (e_may.entry_free y not_c not_e (p ∙ ap Some r))
  apart_now x y place (stayed not_c not_e p) (is_c q r) = absurd (c_may.entry_free x not_c not_e (p ∙ ap Some r))
  apart_now x y place (stayed not_c not_e p) (is_e q r) = absurd (e_may.entry_free x not_c not_e (p ∙ ap Some r))
  apart_now x y place (stayed not_c not_e p) (stayed not_c' not_e' p') = t.apart x y place p p'

  pub IsTree-rehung : IsTree new
  IsTree-rehung =
      record {
        top_is_dir = hung.objects TOP ∙ t.top_is_dir;
        top_is_free = hung.others TOP (λ q. c_low (sym q)) (λ q. e_low (sym q)) ∙ t.top_is_free;
        parents_are_dirs = λ x place p. ap is_directory (hung.objects place.parent) ∙ in_directory_now x place (came x place p);
        rooted = λ x place p. rooted_now x place (came x place p);
        apart = λ x y place p q. apart_now x y place (came x place p) (came y place q);
        links_have_texts = λ x text p. t.links_have_texts x text (sym (hung.objects x) ∙ p);
      }

-- ---- a new node is hung

-- a directory that isn't gone leads up to the top
pub Rooted-not_gone : (nodes : List Inode) → IsTree nodes → (d : ℕ) → is_gone nodes d ≡ false → Rooted nodes d
Rooted-not_gone nodes t d e = by (d == TOP) (place_at nodes d) refl refl e
  where
    by : (b : Bool) (o : Option Place) → (d == TOP) ≡ b → place_at nodes d ≡ o → (not b && not (is_some o)) ≡ false → Rooted nodes d
    by true o q p h = subst (Rooted nodes) (sym (eqb-true d TOP q)) top
    by false None q p h = absurd (false≢true (sym h))
    by false (Some place) q p h = t.rooted d place p

-- the directory that a node stands in does too
pub Rooted-parent : (nodes : List Inode) → IsTree nodes → (c : ℕ) (place : Place) → place_at nodes c ≡ Some place → Rooted nodes place.parent
Rooted-parent nodes t c place e = by (t.rooted c place e) e
  where
    by : {c : ℕ} → Rooted nodes c → place_at nodes c ≡ Some place → Rooted nodes place.parent
    by top e = absurd (none-some place (sym t.top_is_free ∙ e))
    by (below p e' r) e = subst (λ k. Rooted nodes k.parent) (same_Some p place (sym e' ∙ e)) r

module _ (nodes : List Inode) (d : ℕ) (n : List ℕ) (object : Object)
    (t : IsTree nodes) (dir : is_dir nodes d ≡ true) (root : Rooted nodes d) (entry_free : (x : ℕ) → place_at nodes x ≢ Some (entry d n)) (text_fits : HasPathText object) where
  abbrev made : List Inode
  made = nodes ++ record { object = object; place = Some (entry d n) } ∷ []

  made_dir : (x : ℕ) → is_dir nodes x ≡ true → is_dir made x ≡ true
  made_dir x e = by (object_at nodes x) refl e
    where
      by : (o : Option Object) → object_at nodes x ≡ o → is_directory o ≡ true → is_dir made x ≡ true
      by None q h = absurd (false≢true h)
      by (Some what) q h = ap is_directory (object_at-append nodes _ x what q) ∙ h

  made_rooted : {y : ℕ} → Rooted nodes y → Rooted made y
  made_rooted top = top
  made_rooted {y} (below place p r) = below place (place_at-append nodes _ y place p) (made_rooted r)

  new_rooted : (y : ℕ) → y ≡ length nodes → Rooted made y
  new_rooted y e = subst (Rooted made) (sym e) (below (entry d n) (place_at-last nodes _) (made_rooted root))

  pub IsTree-made : IsTree made
  IsTree-made =
      record {
        top_is_dir = object_at-append nodes _ TOP Dir t.top_is_dir;
        top_is_free = place_at-append_within nodes _ TOP (object_at-within nodes TOP Dir t.top_is_dir) ∙ t.top_is_free;
        parents_are_dirs = λ x place p.
            ⊎_elim
            (λ q. made_dir place.parent (t.parents_are_dirs x place q))
            (λ q. made_dir place.parent (ap (λ k. is_dir nodes k.parent) (sym (same_Some (entry d n) place q.1)) ∙ dir))
            (place_at-one_more nodes _ x place p);
        rooted = λ x place p. ⊎_elim (λ q. made_rooted (t.rooted x place q)) (λ q. new_rooted x q.0) (place_at-one_more nodes _ x place p);
        apart = λ x y place p p'.
            ⊎_elim
            (λ q. ⊎_elim (λ q'. t.apart x y place q q') (λ q'. absurd (entry_free x (q ∙ sym q'.1))) (place_at-one_more nodes _ y place p'))
            (λ q. ⊎_elim (λ q'. absurd (entry_free y (q' ∙ sym q.1))) (λ q'. q.0 ∙ sym q'.0) (place_at-one_more nodes _ y place p'))
            (place_at-one_more nodes _ x place p);
        links_have_texts = λ x text p. ⊎_elim (λ q. t.links_have_texts x text q) (λ q. text_fits text q.1) (object_at-one_more nodes _ x (Link text) p);
      }
