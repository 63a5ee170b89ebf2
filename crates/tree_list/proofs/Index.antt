-- The index of a tree's entries as the nodes grow.
use Rattle.std.proofs.Common.{◌≡◌, ℕ, zero, suc, ◌+◌, Bool, true, false, ◌<◌, ◌≢◌, cond, List, [], ◌∷◌, ◌++◌, length, get_or, slice_set, inl, inr, eq-eqb, Option, Some, None, refl, sym, ap, ◌∙◌, zero-add, length-append, arith}
use Rattle.std.proofs.lemmas.Bool.{false≢true, cases_eq, ne_eqb}
use Rattle.std.proofs.lemmas.List.{length-set}
use Rattle.std.specs.Option.{option_and_then}
use Rattle.std.specs.BTreeMap.{BTreeMap, get_by, IsEmpty}
use Rattle.std.specs.Cmp.Lexicographic.{slice_cmp, texts_ties, bytes_decides}
use Rattle.std.specs.Global.{Vec}
use Rattle.std.specs.Map.{lookup, KeepsOthers}
use Rattle.std.specs.Ordering.{nat_cmp, is_eq, eq_by_cmp}
use Rattle.path_text.specs.Name.{same_bytes}
use Rattle.tree_model.specs.declared.inode.Inode.{Inode}
use Rattle.tree_model.specs.declared.inode.Object.{Object}
use Rattle.tree_model.specs.declared.inode.Place.{Place}
use Rattle.tree_model.specs.State.{child, child_from, is_at}
use Rattle.tree_model.proofs.Children.{entry, is_at-true}
use Rattle.tree_model.proofs.StepLaws.{slice_get-set_other}
use Rattle.tree_list.specs.Index.{node_in, PutsNode, IsIndexOf}

-- a map without entries for one node more
node_in-empty_more : (index : List (BTreeMap (Vec ℕ) ℕ)) (map : BTreeMap (Vec ℕ) ℕ) → IsEmpty map → (d : ℕ) (n : List ℕ) → node_in (index ++ map ∷ []) d n ≡ node_in index d n
node_in-empty_more [] map none zero n = ap (lookup (λ k. is_eq (slice_cmp nat_cmp n k.items))) none
node_in-empty_more [] map none (suc d) n = refl
node_in-empty_more (first ∷ index) map none zero n = refl
node_in-empty_more (first ∷ index) map none (suc d) n = node_in-empty_more index map none d n

-- what is found among the nodes and one more
abbrev or_last : Bool → ℕ → Option ℕ → Option ℕ
or_last b k None = cond b (Some k) None
or_last b k (Some c) = Some c

or_last-found : (a b : Bool) (k m : ℕ) (o : Option ℕ) → cond a (Some k) (or_last b m o) ≡ or_last b m (cond a (Some k) o)
or_last-found true b k m o = refl
or_last-found false b k m o = refl

child_from-one_more : (k : ℕ) (nodes : List Inode) (inode : Inode) (d : ℕ) (n : List ℕ)
    → child_from k (nodes ++ inode ∷ []) d n ≡ or_last (is_at d n inode.place) (k + length nodes) (child_from k nodes d n)
child_from-one_more k [] inode d n = let same : k ≡ k + 0 = omega arith in ap (λ m. cond (is_at d n inode.place) (Some m) None) same
child_from-one_more k (first ∷ nodes) inode d n =
    let same : suc k + length nodes ≡ k + suc (length nodes) = omega arith in
    ap (λ o. cond (is_at d n first.place) (Some k) o)
    (child_from-one_more (suc k) nodes inode d n ∙ ap (λ m. or_last (is_at d n inode.place) m (child_from (suc k) nodes d n)) same)
    ∙ or_last-found (is_at d n first.place) (is_at d n inode.place) k (k + suc (length nodes)) (child_from (suc k) nodes d n)

child-one_more : (nodes : List Inode) (object : Object) (p : Place) (d : ℕ) (n : List ℕ)
    → child (nodes ++ record { object = object; place = Some p } ∷ []) d n ≡ or_last (is_at d n (Some p)) (length nodes) (child nodes d n)
child-one_more nodes object p d n =
    child_from-one_more 0 nodes (record { object = object; place = Some p }) d n
    ∙ ap (λ m. or_last (is_at d n (Some p)) m (child nodes d n)) (zero-add (length nodes))

updated : (nodes : List Inode) (p at : Place) (k : ℕ) → child nodes p.parent p.name ≡ None → (b : Bool) → is_at at.parent at.name (Some p) ≡ b
    → (o : Option ℕ) → child nodes at.parent at.name ≡ o → cond b (Some k) o ≡ or_last b k o
updated nodes p at k free b e None q = refl
updated nodes p at k free false e (Some c) q = refl
updated nodes p at k free true e (Some c) q =
    let same : Some p ≡ Some (entry at.parent at.name) = is_at-true at.parent at.name (Some p) e in
    absurd (cc (same, free, q))

pub index-one_more : (nodes : List Inode) (index put : List (BTreeMap (Vec ℕ) ℕ)) (map : BTreeMap (Vec ℕ) ℕ) (object : Object) (p : Place) → IsIndexOf nodes index
    → child nodes p.parent p.name ≡ None → PutsNode index put p (length nodes) → IsEmpty map
    → IsIndexOf (nodes ++ record { object = object; place = Some p } ∷ []) (put ++ map ∷ [])
index-one_more nodes index put map object p is free changed none = record {
  found = λ d n.
      node_in-empty_more put map none d n
      ∙ changed.nodes d n
      ∙ ap (λ o. cond (is_at d n (Some p)) (Some (length nodes)) o) (is.found d n)
      ∙ updated nodes p (entry d n) (length nodes) free (is_at d n (Some p)) refl (child nodes d n) refl
      ∙ sym (child-one_more nodes object p d n);
  count = omega (arith, length-append put (map ∷ []), length-append nodes (record { object = object; place = Some p } ∷ []), changed.count, is.count);
}

-- ---- one map is changed

-- a name's order ties with that of the same bytes
ties : (n m : List ℕ) → is_eq (slice_cmp nat_cmp n m) ≡ same_bytes n m
ties n m = sym (texts_ties n m)

same_name : (n m : List ℕ) → is_eq (slice_cmp nat_cmp n m) ≡ true → n ≡ m
same_name n m e = (bytes_decides n m).0 (texts_ties n m ∙ e)

module _ {K : Type 0} (bytes : K → List ℕ) where
  -- what is found by a name after another entry was changed
  changed_name : (n m : List ℕ) (x : Option ℕ) (old new : List (K × ℕ)) → lookup (λ k. is_eq (slice_cmp nat_cmp n (bytes k))) new ≡ x
      → KeepsOthers (eq_by_cmp (λ j k. slice_cmp nat_cmp (bytes j) (bytes k))) (λ k. is_eq (slice_cmp nat_cmp n (bytes k))) old new
      → (b : Bool) → is_eq (slice_cmp nat_cmp n m) ≡ b
      → lookup (λ k. is_eq (slice_cmp nat_cmp m (bytes k))) new ≡ cond b x (lookup (λ k. is_eq (slice_cmp nat_cmp m (bytes k))) old)
  unfolding KeepsOthers
  changed_name n m x old new here others true e = ap (λ q. lookup (λ k. is_eq (slice_cmp nat_cmp q (bytes k))) new) (sym (same_name n m e)) ∙ here
  changed_name n m x old new here others false e =
      others (λ k. is_eq (slice_cmp nat_cmp m (bytes k))) (λ j k t. ap (λ q. is_eq (slice_cmp nat_cmp q (bytes k))) (same_name m (bytes j) t))
      (λ k t. apart k t (is_eq (slice_cmp nat_cmp m (bytes k))) refl)
    where
      apart : (k : K) → is_eq (slice_cmp nat_cmp n (bytes k)) ≡ true → (b : Bool) → is_eq (slice_cmp nat_cmp m (bytes k)) ≡ b → b ≡ false
      apart k t true u = absurd (false≢true (sym e ∙ ap (λ q. is_eq (slice_cmp nat_cmp n q)) (same_name m (bytes k) u) ∙ t))
      apart k t false u = refl

-- a map of the index is another
node_in-set : (index : List (BTreeMap (Vec ℕ) ℕ)) (d : ℕ) (map : BTreeMap (Vec ℕ) ℕ) (n : List ℕ) → d < length index
    → node_in (slice_set index d map) d n ≡ lookup (λ k. is_eq (slice_cmp nat_cmp n k.items)) map.entries
node_in-set [] d map n less = absurd (omega arith)
node_in-set (first ∷ index) zero map n less = refl
node_in-set (first ∷ index) (suc d) map n less = node_in-set index d map n (omega arith)

node_in-get : (index : List (BTreeMap (Vec ℕ) ℕ)) (d : ℕ) (map : BTreeMap (Vec ℕ) ℕ) (n : List ℕ) → d < length index → map ≡ get_or index d map
    → node_in index d n ≡ lookup (λ k. is_eq (slice_cmp nat_cmp n k.items)) map.entries
node_in-get [] d map n less is = absurd (omega arith)
node_in-get (first ∷ index) zero map n less is = ap (λ m. lookup (λ k. is_eq (slice_cmp nat_cmp n k.items)) m.entries) (sym is)
node_in-get (first ∷ index) (suc d) map n less is = node_in-get index d map n (omega arith) is

node_in-set_other : (index : List (BTreeMap (Vec ℕ) ℕ)) (d : ℕ) (map : BTreeMap (Vec ℕ) ℕ) (f : ℕ) (n : List ℕ) → f ≢ d → node_in (slice_set index d map) f n ≡ node_in index f n
node_in-set_other index d map f n ne = ap (option_and_then (get_by (λ key. slice_cmp nat_cmp n key.items))) (slice_get-set_other index d map f ne)

pub put_one : (index : List (BTreeMap (Vec ℕ) ℕ)) (d : ℕ) (old new : BTreeMap (Vec ℕ) ℕ) (n : List ℕ) (x : ℕ) → d < length index → old ≡ get_or index d old
    → lookup (λ k. is_eq (slice_cmp nat_cmp n k.items)) new.entries ≡ Some x
    → KeepsOthers (eq_by_cmp (λ j k. slice_cmp nat_cmp j.items k.items)) (λ k. is_eq (slice_cmp nat_cmp n k.items)) old.entries new.entries
    → PutsNode index (slice_set index d new) (entry d n) x
put_one index d old new n x less is here others = record { nodes = nodes; count = length-set index d new }
  where
    nodes : (f : ℕ) (m : List ℕ) → node_in (slice_set index d new) f m ≡ cond (is_at f m (Some (entry d n))) (Some x) (node_in index f m)
    nodes f m = elim (cases_eq f d) as (λ _. node_in (slice_set index d new) f m ≡ cond (is_at f m (Some (entry d n))) (Some x) (node_in index f m)) [
      | inl e ↦ rw (e, eq-eqb d d refl, ← ties n m, node_in-set index d new m less, node_in-get index d old m less is)
          (changed_name (λ k. k.items) n m (Some x) old.entries new.entries here others (is_eq (slice_cmp nat_cmp n m)) refl)
      | inr ne ↦ rw (ne_eqb d f (λ e. ne (sym e))) (node_in-set_other index d new f m ne)
    ]
