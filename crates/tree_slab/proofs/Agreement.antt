-- Look-ups that agree with the nodes do so after an entry is taken away, moved or exchanged, and with one node more.
use Rattle.std.proofs.Common.{◌≡◌, ◌≢◌, ◌⊎◌, ℕ, zero, suc, ◌<◌, Bool, true, false, if◌then◌else◌, ◌==◌, ◌&&◌, List, [], ◌∷◌, ◌++◌, length, Option, Some, None, refl, ap, sym, ◌∙◌, inl, inr, ⊎_elim, subst, eq-eqb, eqb-true, arith}
use Rattle.std.proofs.lemmas.Bool.{cases_eq, ne_eqb, false≢true, and_parts}
use Rattle.std.proofs.lemmas.Option.{none-some, same_Some}
use Rattle.tree_model.specs.declared.inode.Inode.{Inode}
use Rattle.tree_model.specs.declared.inode.Place.{Place}
use Rattle.tree_model.specs.State.{place_at, child, put_at, at_place}
use Rattle.tree_model.proofs.Places.{place_at-within, length-put_at, place_at-put_at, place_at-put_other, place_at-append, place_at-last, place_at-one_more}
use Rattle.tree_model.proofs.Children.{entry, place_at-child, place_at-no_child}
use Rattle.tree_model.proofs.Hanging.{stood}
use Rattle.tree_slab.specs.Directories.{is_name, with_entry}
use Rattle.tree_slab.specs.Index.{Agrees}
use Rattle.tree_slab.proofs.NameOrder.{is_name-refl, is_name-true}

abbrev Look : Type 0
Look = ℕ → List ℕ → Option ℕ

-- ---- one entry of a look-up

test_true : (d : ℕ) (n : List ℕ) (f : ℕ) (m : List ℕ) → (f == d && is_name n m) ≡ true → entry f m ≡ entry d n
test_true d n f m e =
    let both = and_parts (f == d) (is_name n m) e in
    λ i. entry (eqb-true f d both.0 i) (sym (is_name-true n m both.1) i)

pub with_entry-cases : (look : Look) (d : ℕ) (n : List ℕ) (x : Option ℕ) (f : ℕ) (m : List ℕ)
    → ((entry f m ≡ entry d n) × (with_entry look d n x f m ≡ x)) ⊎ ((entry f m ≢ entry d n) × (with_entry look d n x f m ≡ look f m))
with_entry-cases look d n x f m = elim (cases_eq f d) [
  | inl q ↦ by q (is_name n m) refl
  | inr ne ↦ inr ((λ e. ne (ap (λ place. place.parent) e)), rw (ne_eqb f d ne) refl)
]
  where
    by : f ≡ d → (b : Bool) → is_name n m ≡ b → ((entry f m ≡ entry d n) × (with_entry look d n x f m ≡ x)) ⊎ ((entry f m ≢ entry d n) × (with_entry look d n x f m ≡ look f m))
    by q true e = inl ((λ i. entry (q i) (sym (is_name-true n m e) i)), rw (eq-eqb f d q, e) refl)
    by q false e = inr ((λ r. false≢true (sym e ∙ ap (λ place. is_name n place.name) r ∙ is_name-refl n)), rw (eq-eqb f d q, e) refl)

pub with_entry-here : (look : Look) (d : ℕ) (n : List ℕ) (x : Option ℕ) → with_entry look d n x d n ≡ x
with_entry-here look d n x = rw (eq-eqb d d refl, is_name-refl n) refl

pub with_entry-other : (look : Look) (d : ℕ) (n : List ℕ) (x : Option ℕ) (f : ℕ) (m : List ℕ) → entry f m ≢ entry d n → with_entry look d n x f m ≡ look f m
with_entry-other look d n x f m ne = ⊎_elim (λ r. absurd (ne r.0)) (λ r. r.1) (with_entry-cases look d n x f m)

same_look : (look : Look) (d : ℕ) (n : List ℕ) (f : ℕ) (m : List ℕ) → entry f m ≡ entry d n → look f m ≡ look d n
same_look look d n f m e = ap (λ place. look place.parent place.name) e

-- two entries that lead to two nodes are two
pub apart_by_nodes : (look : Look) (d : ℕ) (n : List ℕ) (f : ℕ) (m : List ℕ) (c e : ℕ) → look d n ≡ Some c → look f m ≡ Some e → c ≢ e → entry d n ≢ entry f m
apart_by_nodes look d n f m c e there other ne q = ne (same_Some c e (sym there ∙ same_look look f m d n q ∙ other))

apart_by_none : (look : Look) (d : ℕ) (n : List ℕ) (f : ℕ) (m : List ℕ) (c : ℕ) → look d n ≡ Some c → look f m ≡ None → entry d n ≢ entry f m
apart_by_none look d n f m c there none q = none-some c (sym none ∙ sym (same_look look f m d n q) ∙ there)

-- ---- one change of the nodes

pub alike : (look other : Look) (nodes : List Inode) → ((f : ℕ) (m : List ℕ) → other f m ≡ look f m) → Agrees look nodes → Agrees other nodes
alike look other nodes same a = record {
  found = λ d n x e. a.found d n x (sym (same d n) ∙ e);
  kept = λ d n x p. same d n ∙ a.kept d n x p;
}

module _ (look : Look) (nodes : List Inode) (a : Agrees look nodes) where
  pub child-look : (d : ℕ) (n : List ℕ) → child nodes d n ≡ look d n
  child-look d n = on (child nodes d n) refl
    where
      none : child nodes d n ≡ None → (o : Option ℕ) → look d n ≡ o → None ≡ o
      none e None q = refl
      none e (Some x) q = absurd (place_at-no_child nodes d n e x (a.found d n x q))

      on : (o : Option ℕ) → child nodes d n ≡ o → o ≡ look d n
      on None e = none e (look d n) refl
      on (Some c) e = sym (a.kept d n c (place_at-child nodes d n c e))

  pub taken : (d : ℕ) (n : List ℕ) (c : ℕ) → look d n ≡ Some c → Agrees (with_entry look d n None) (put_at nodes c None)
  taken d n c there = record { found = found; kept = kept }
    where
      found : (f : ℕ) (m : List ℕ) (y : ℕ) → with_entry look d n None f m ≡ Some y → place_at (put_at nodes c None) y ≡ Some (entry f m)
      found f m y e = elim (with_entry-cases look d n None f m) [
        | inl r ↦ absurd (none-some y (sym r.1 ∙ e))
        | inr r ↦
            let p = a.found f m y (sym r.1 ∙ e) in
            let ne : y ≢ c = λ q. r.0 (same_Some (entry f m) (entry d n) (sym p ∙ ap (place_at nodes) q ∙ a.found d n c there)) in
            place_at-put_other nodes c None y ne ∙ p
      ]

      kept : (f : ℕ) (m : List ℕ) (y : ℕ) → place_at (put_at nodes c None) y ≡ Some (entry f m) → with_entry look d n None f m ≡ Some y
      kept f m y p =
          let s = stood nodes c y (entry f m) p in
          let was = a.kept f m y s.1 in
          elim (with_entry-cases look d n None f m) [
            | inl r ↦ absurd (s.0 (same_Some y c (sym was ∙ same_look look d n f m r.0 ∙ there)))
            | inr r ↦ r.1 ∙ was
          ]

  pub put : (d : ℕ) (n : List ℕ) (c : ℕ) → place_at nodes c ≡ None → c < length nodes → look d n ≡ None → Agrees (with_entry look d n (Some c)) (put_at nodes c (Some (entry d n)))
  put d n c free within none = record { found = found; kept = kept }
    where
      here : place_at (put_at nodes c (Some (entry d n))) c ≡ Some (entry d n)
      here = place_at-put_at nodes c (Some (entry d n)) within

      found : (f : ℕ) (m : List ℕ) (y : ℕ) → with_entry look d n (Some c) f m ≡ Some y → place_at (put_at nodes c (Some (entry d n))) y ≡ Some (entry f m)
      found f m y e = elim (with_entry-cases look d n (Some c) f m) [
        | inl r ↦
            let q : y ≡ c = sym (same_Some c y (sym r.1 ∙ e)) in
            ap (place_at (put_at nodes c (Some (entry d n)))) q ∙ here ∙ ap Some (sym r.0)
        | inr r ↦
            let p = a.found f m y (sym r.1 ∙ e) in
            let ne : y ≢ c = λ q. none-some (entry f m) (sym free ∙ ap (place_at nodes) (sym q) ∙ p) in
            place_at-put_other nodes c (Some (entry d n)) y ne ∙ p
      ]

      kept : (f : ℕ) (m : List ℕ) (y : ℕ) → place_at (put_at nodes c (Some (entry d n))) y ≡ Some (entry f m) → with_entry look d n (Some c) f m ≡ Some y
      kept f m y p = elim (cases_eq y c) [
        | inl q ↦
            let same : entry f m ≡ entry d n = same_Some (entry f m) (entry d n) (sym p ∙ ap (place_at (put_at nodes c (Some (entry d n)))) q ∙ here) in
            ⊎_elim (λ r. r.1 ∙ ap Some (sym q)) (λ r. absurd (r.0 same)) (with_entry-cases look d n (Some c) f m)
        | inr ne ↦
            let was = a.kept f m y (sym (place_at-put_other nodes c (Some (entry d n)) y ne) ∙ p) in
            ⊎_elim (λ r. absurd (none-some y (sym none ∙ sym (same_look look d n f m r.0) ∙ was))) (λ r. r.1 ∙ was) (with_entry-cases look d n (Some c) f m)
      ]

  pub made_entry : (d : ℕ) (n : List ℕ) (inode : Inode) → look d n ≡ None → inode.place ≡ Some (entry d n) → Agrees (with_entry look d n (Some (length nodes))) (nodes ++ inode ∷ [])
  made_entry d n inode none place = record { found = found; kept = kept }
    where
      found : (f : ℕ) (m : List ℕ) (y : ℕ) → with_entry look d n (Some (length nodes)) f m ≡ Some y → place_at (nodes ++ inode ∷ []) y ≡ Some (entry f m)
      found f m y e = elim (with_entry-cases look d n (Some (length nodes)) f m) [
        | inl r ↦
            let q : y ≡ length nodes = sym (same_Some (length nodes) y (sym r.1 ∙ e)) in
            ap (place_at (nodes ++ inode ∷ [])) q ∙ place_at-last nodes inode ∙ place ∙ ap Some (sym r.0)
        | inr r ↦ place_at-append nodes (inode ∷ []) y (entry f m) (a.found f m y (sym r.1 ∙ e))
      ]

      kept : (f : ℕ) (m : List ℕ) (y : ℕ) → place_at (nodes ++ inode ∷ []) y ≡ Some (entry f m) → with_entry look d n (Some (length nodes)) f m ≡ Some y
      kept f m y p = elim (place_at-one_more nodes inode y (entry f m) p) [
        | inl p' ↦
            let was = a.kept f m y p' in
            ⊎_elim (λ r. absurd (none-some y (sym none ∙ sym (same_look look d n f m r.0) ∙ was))) (λ r. r.1 ∙ was) (with_entry-cases look d n (Some (length nodes)) f m)
        | inr s ↦
            let same : entry f m ≡ entry d n = same_Some (entry f m) (entry d n) (sym s.1 ∙ place) in
            ⊎_elim (λ r. r.1 ∙ ap Some (sym s.0)) (λ r. absurd (r.0 same)) (with_entry-cases look d n (Some (length nodes)) f m)
      ]

  pub unplaced_entry : (inode : Inode) → inode.place ≡ None → Agrees look (nodes ++ inode ∷ [])
  unplaced_entry inode free = record {
    found = λ d n x e. place_at-append nodes (inode ∷ []) x (entry d n) (a.found d n x e);
    kept = λ d n x p. ⊎_elim (λ p'. a.kept d n x p') (λ s. absurd (none-some (entry d n) (sym free ∙ s.1))) (place_at-one_more nodes inode x (entry d n) p);
  }

-- ---- nodes that are put twice

put_twice : (nodes : List Inode) (c : ℕ) (p q : Option Place) → put_at (put_at nodes c p) c q ≡ put_at nodes c q
put_twice [] c p q = refl
put_twice (inode ∷ nodes) zero p q = refl
put_twice (inode ∷ nodes) (suc c) p q = ap (λ rest. inode ∷ rest) (put_twice nodes c p q)

put_four : (nodes : List Inode) (c e : ℕ) (p q : Option Place) → put_at (put_at (put_at (put_at nodes c None) e None) c p) e q ≡ put_at (put_at nodes c p) e q
put_four [] c e p q = refl
put_four (inode ∷ nodes) zero zero p q = refl
put_four (inode ∷ nodes) zero (suc e) p q = ap (λ rest. at_place p inode ∷ rest) (put_twice nodes e None q)
put_four (inode ∷ nodes) (suc c) zero p q = ap (λ rest. at_place q inode ∷ rest) (put_twice nodes c None p)
put_four (inode ∷ nodes) (suc c) (suc e) p q = ap (λ rest. inode ∷ rest) (put_four nodes c e p q)

-- ---- whole changes, in the order in which the maps are written

choice-swap : (b1 b2 : Bool) (x y z : Option ℕ) → (b1 ≡ true → b2 ≡ true → ⊥) → (if b1 then y else (if b2 then x else z)) ≡ (if b2 then x else (if b1 then y else z))
choice-swap true true x y z not_both = absurd (not_both refl refl)
choice-swap true false x y z not_both = refl
choice-swap false true x y z not_both = refl
choice-swap false false x y z not_both = refl

choice-over : (b1 b2 : Bool) (x y z : Option ℕ) → (if b1 then y else (if b2 then x else z)) ≡ (if b1 then y else (if b2 then x else (if b2 then None else z)))
choice-over true b2 x y z = refl
choice-over false true x y z = refl
choice-over false false x y z = refl

choice-four : (b1 b2 : Bool) (x y z : Option ℕ) → (if b1 then y else (if b2 then x else z)) ≡ (if b1 then y else (if b2 then x else (if b2 then None else (if b1 then None else z))))
choice-four true b2 x y z = refl
choice-four false true x y z = refl
choice-four false false x y z = refl

module _ (look : Look) (nodes : List Inode) (a : Agrees look nodes) (d : ℕ) (n : List ℕ) (f : ℕ) (m : List ℕ) (c : ℕ) (there : look d n ≡ Some c) where
  c_within : c < length nodes
  c_within = place_at-within nodes c (entry d n) (a.found d n c there)

  pub moved_entry : look f m ≡ None → Agrees (with_entry (with_entry look f m (Some c)) d n None) (put_at nodes c (Some (entry f m)))
  moved_entry none =
      let apart = apart_by_none look d n f m c there none in
      let out = taken look nodes a d n c there in
      let free = place_at-put_at nodes c None c_within in
      let nobody = with_entry-other look d n None f m (λ q. apart (sym q)) ∙ none in
      let within : c < length (put_at nodes c None) = let h = c_within in omega (arith, length-put_at nodes c None) in
      let both = put (with_entry look d n None) (put_at nodes c None) out f m c free within nobody in
      let swapped = alike _ (with_entry (with_entry look f m (Some c)) d n None) _ (λ g k. choice-swap (g == d && is_name n k) (g == f && is_name m k) (Some c) None (look g k) (λ e1 e2. apart (sym (test_true d n g k e1) ∙ test_true f m g k e2))) both in
      subst (λ all. Agrees (with_entry (with_entry look f m (Some c)) d n None) all) (put_twice nodes c None (Some (entry f m))) swapped

module _ (look : Look) (nodes : List Inode) (a : Agrees look nodes) (d : ℕ) (n : List ℕ) (f : ℕ) (m : List ℕ) (c : ℕ) (there : look d n ≡ Some c) where
  module _ (e : ℕ) (other : look f m ≡ Some e) (ne : c ≢ e) where
    places_apart : entry d n ≢ entry f m
    places_apart = apart_by_nodes look d n f m c e there other ne

    e_within : e < length nodes
    e_within = place_at-within nodes e (entry f m) (a.found f m e other)

  pub replaced_entry : (e : ℕ) → look f m ≡ Some e → c ≢ e → Agrees (with_entry (with_entry look f m (Some c)) d n None) (put_at (put_at nodes e None) c (Some (entry f m)))
  replaced_entry e other ne =
      let apart = places_apart e other ne in
      let out = taken look nodes a f m e other in
      let still = with_entry-other look f m None d n apart ∙ there in
      let both = moved_entry (with_entry look f m None) (put_at nodes e None) out d n f m c still (with_entry-here look f m None) in
      alike _ (with_entry (with_entry look f m (Some c)) d n None) _ (λ g k. choice-over (g == d && is_name n k) (g == f && is_name m k) (Some c) None (look g k)) both

  pub exchanged_entry : (e : ℕ) → look f m ≡ Some e → c ≢ e → Agrees (with_entry (with_entry look f m (Some c)) d n (Some e)) (put_at (put_at nodes c (Some (entry f m))) e (Some (entry d n)))
  exchanged_entry e other ne =
      let apart = places_apart e other ne in
      let n1 = put_at nodes c None in
      let l1 = with_entry look d n None in
      let a1 = taken look nodes a d n c there in
      let e1 : l1 f m ≡ Some e = with_entry-other look d n None f m (λ q. apart (sym q)) ∙ other in
      let n2 = put_at n1 e None in
      let l2 = with_entry l1 f m None in
      let a2 = taken l1 n1 a1 f m e e1 in
      let c_in = c_within look nodes a d n f m c there in
      let e_in = e_within e other ne in
      let c_in2 : c < length n2 = omega (arith, length-put_at n1 e None, length-put_at nodes c None) in
      let c_free : place_at n2 c ≡ None = place_at-put_other n1 e None c ne ∙ place_at-put_at nodes c None c_in in
      let n3 = put_at n2 c (Some (entry f m)) in
      let l3 = with_entry l2 f m (Some c) in
      let a3 = put l2 n2 a2 f m c c_free c_in2 (with_entry-here l1 f m None) in
      let e_in1 : e < length n1 = omega (arith, length-put_at nodes c None) in
      let e_in3 : e < length n3 = omega (arith, length-put_at n2 c (Some (entry f m)), length-put_at n1 e None, length-put_at nodes c None) in
      let e_free : place_at n3 e ≡ None = place_at-put_other n2 c (Some (entry f m)) e (λ q. ne (sym q)) ∙ place_at-put_at n1 e None e_in1 in
      let d_free : l3 d n ≡ None = with_entry-other l2 f m (Some c) d n apart ∙ with_entry-other l1 f m None d n apart ∙ with_entry-here look d n None in
      let a4 = put l3 n3 a3 d n e e_free e_in3 d_free in
      subst (λ all. Agrees (with_entry (with_entry look f m (Some c)) d n (Some e)) all) (put_four nodes c e (Some (entry f m)) (Some (entry d n)))
      (alike _ (with_entry (with_entry look f m (Some c)) d n (Some e)) _ (λ g k. choice-four (g == d && is_name n k) (g == f && is_name m k) (Some c) (Some e) (look g k)) a4)
