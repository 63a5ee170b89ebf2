-- Each entry that was built stands at its names.
use Rattle.std.proofs.Common.{◌≡◌, ◌≢◌, ℕ, zero, suc, ◌+◌, List, [], ◌∷◌, ◌++◌, length, reverse, not, Some, Ok, Err, refl, ap, sym, ◌∙◌, subst, append_assoc, append-nil, length-append, arith}
use mathlib.Core.List.{reverse_aux}
use Rattle.std.specs.Prelude.{slice_get, is_some, nat_le}
use Rattle.path_text.specs.declared.errno.Errno.TheVariants.{NotFound, Exists, NotDir, TooMany}
use Rattle.tree_model.specs.declared.inode.Inode.{Inode}
use Rattle.tree_model.specs.declared.inode.Object.{Object}
use Rattle.tree_model.specs.declared.tree.TheConstants.{NUMBERS_MAX}
use Rattle.tree_model.specs.State.{State, TOP, object_at, child, is_dir, is_gone, Stands}
use Rattle.tree_model.specs.Entries.{makes}
use Rattle.tree_model.specs.Trees.{IsTree}
use Rattle.tree_model.proofs.Places.{object_at-append, place_at-last, object_at-within}
use Rattle.tree_model.proofs.Children.{place_at-child}
use Rattle.tree_model.proofs.Refusals.{refuse_if-both, with_some-both, refuse_by-both}
use Rattle.tree_model.proofs.Changed.{IfDone}
use Rattle.tree_list.specs.Build.{top_alone, object_of, new_fault, makes_at, adds, adds_all, built, IsBuilt, IsTreeOf}
use Rattle.tree_list.specs.declared.build.Entry.{Entry}
use Rattle.tree_list.proofs.Built.{done, added, adds-tree, top_alone-tree}
use Rattle.tree_model.proofs.Standing.{Stands-append}

-- one node more, which stands at these names
record IsAdded (nodes : List Inode) (object : Object) (names : List (List ℕ)) (new : List Inode) : Type 0 where
  more : List Inode
  is : new ≡ nodes ++ more
  one : length more ≡ 1
  object_is : object_at new (length nodes) ≡ Some object
  stands : Stands new TOP (length nodes) names

object_at-last : (nodes : List Inode) (inode : Inode) → object_at (nodes ++ inode ∷ []) (length nodes) ≡ Some inode.object
object_at-last [] inode = refl
object_at-last (first ∷ nodes) inode = object_at-last nodes inode

not_top : (nodes : List Inode) → IsTree nodes → length nodes ≢ TOP
not_top nodes tree e = absurd (omega (arith, object_at-within nodes TOP _ tree.top_is_dir))

makes-added : (nodes : List Inode) → IsTree nodes → (d : ℕ) (p : List (List ℕ)) → Stands nodes TOP d p → (n : List ℕ) (object : Object)
    → IfDone (IsAdded nodes object (n ∷ p)) (makes nodes d n object)
makes-added nodes tree d p s n object =
    let inode : Inode = record { object = object; place = Some (record { parent = d; name = n }) } in
    let made : IsAdded nodes object (n ∷ p) (nodes ++ inode ∷ []) = record {
      more = inode ∷ [];
      is = refl;
      one = refl;
      object_is = object_at-last nodes inode;
      stands = (not_top nodes tree, (d, (place_at-last nodes inode, Stands-append nodes (inode ∷ []) TOP d p s)));
    } in
    refuse_if-both (IfDone (IsAdded nodes object (n ∷ p))) (not (is_dir nodes d)) (Err NotDir) _ tt (λ _.
    refuse_if-both (IfDone (IsAdded nodes object (n ∷ p))) (is_gone nodes d) (Err NotFound) _ tt (λ _.
    refuse_if-both (IfDone (IsAdded nodes object (n ∷ p))) (is_some (child nodes d n)) (Err Exists) _ tt (λ _.
    refuse_if-both (IfDone (IsAdded nodes object (n ∷ p))) (nat_le NUMBERS_MAX (length nodes)) (Err TooMany) _ tt (λ _. made))))

makes_at-added : (nodes : List Inode) → IsTree nodes → (x : ℕ) (p : List (List ℕ)) → Stands nodes TOP x p → (names : List (List ℕ)) (object : Object)
    → IfDone (IsAdded nodes object (reverse_aux names p)) (makes_at nodes x names object)
makes_at-added nodes tree x p s [] object = tt
makes_at-added nodes tree x p s (n ∷ []) object = makes-added nodes tree x p s n object
makes_at-added nodes tree x p s (n ∷ m ∷ names) object =
    with_some-both (IfDone (IsAdded nodes object (reverse_aux (m ∷ names) (n ∷ p)))) (child nodes x n) _ _ tt (λ c e.
    let stands_there = place_at-child nodes x n c e in
    let below_top : c ≢ TOP = λ at_top. absurd (cc (tree.top_is_free, stands_there, at_top)) in
    makes_at-added nodes tree c (n ∷ p) (below_top, (x, (stands_there, s))) (m ∷ names) object)

adds-added : (nodes new : List Inode) (entry : Entry) → IsTree nodes → adds nodes entry ≡ Ok new → IsAdded nodes (object_of entry.what) (reverse entry.at) new
adds-added nodes new entry tree e =
    done (IsAdded nodes (object_of entry.what) (reverse entry.at)) (adds nodes entry) new e
    (refuse_by-both (IfDone (IsAdded nodes (object_of entry.what) (reverse entry.at))) (new_fault entry.what) _ (λ _. tt)
    (λ _. makes_at-added nodes tree TOP [] refl entry.at (object_of entry.what)))

-- the entries from the k-th on are built upon these nodes
record AreAdded (k : ℕ) (nodes : List Inode) (entries : List Entry) (new : List Inode) : Type 0 where
  more : List Inode
  is : new ≡ nodes ++ more
  count : length new ≡ length nodes + length entries
  objects : (j : ℕ) (entry : Entry) → slice_get entries j ≡ Some entry → object_at new (length nodes + j) ≡ Some (object_of entry.what)
  names : (j : ℕ) (entry : Entry) → slice_get entries j ≡ Some entry → Stands new TOP (length nodes + j) (reverse entry.at)

module _ (nodes mid new : List Inode) (k : ℕ) (entry : Entry) (entries : List Entry)
    (one : IsAdded nodes (object_of entry.what) (reverse entry.at) mid) (rest : AreAdded (suc k) mid entries new) where
  longer : length mid ≡ length nodes + 1
  longer = omega (arith, ap length one.is, length-append nodes one.more, one.one)

  all-objects : (j : ℕ) (other : Entry) → slice_get (entry ∷ entries) j ≡ Some other → object_at new (length nodes + j) ≡ Some (object_of other.what)
  all-objects zero other e =
      let first : object_at (mid ++ rest.more) (length nodes) ≡ Some (object_of entry.what) = object_at-append mid rest.more (length nodes) _ one.object_is in
      let here : length nodes + 0 ≡ length nodes = omega arith in
      let same : entry ≡ other = cc (e) in
      rw (rest.is, here, ← same) first
  all-objects (suc j) other e =
      let there : length nodes + suc j ≡ length mid + j = omega (arith, longer) in
      rw there (rest.objects j other e)

  all-names : (j : ℕ) (other : Entry) → slice_get (entry ∷ entries) j ≡ Some other → Stands new TOP (length nodes + j) (reverse other.at)
  all-names zero other e =
      let first : Stands (mid ++ rest.more) TOP (length nodes) (reverse entry.at) = Stands-append mid rest.more TOP (length nodes) _ one.stands in
      let here : length nodes ≡ length nodes + 0 = omega arith in
      let same : entry ≡ other = cc (e) in
      subst (λ other. Stands new TOP (length nodes + 0) (reverse other.at)) same
      (subst (λ x. Stands new TOP x (reverse entry.at)) here
      (subst (λ all. Stands all TOP (length nodes) (reverse entry.at)) (sym rest.is) first))
  all-names (suc j) other e =
      let there : length mid + j ≡ length nodes + suc j = omega (arith, longer) in
      subst (λ x. Stands new TOP x (reverse other.at)) there (rest.names j other e)

  all : AreAdded k nodes (entry ∷ entries) new
  all = record {
    more = one.more ++ rest.more;
    is = cc (rest.is, one.is, append_assoc nodes one.more rest.more);
    count = omega (arith, longer, rest.count);
    objects = all-objects;
    names = all-names;
  }

adds_all-added : (k : ℕ) (nodes new : List Inode) (entries : List Entry) → IsTree nodes → adds_all k nodes entries ≡ Ok new → AreAdded k nodes entries new
adds_all-added k nodes new [] tree e =
    record {
      more = [];
      is = let same : nodes ≡ new = cc (e) in sym same ∙ sym (append-nil nodes);
      count = let same : nodes ≡ new = cc (e) in omega (arith, ap length same);
      objects = λ j entry none. absurd (cc (none));
      names = λ j entry none. absurd (cc (none));
    }
adds_all-added k nodes new (entry ∷ entries) tree e =
    let a = added (adds nodes entry) k (λ mid. adds_all (suc k) mid entries) new e in
    all nodes a.0 new k entry entries (adds-added nodes a.0 entry tree a.1.0)
    (adds_all-added (suc k) a.0 new entries (adds-tree nodes a.0 entry tree a.1.0) a.1.1)

built-tree_of : (entries : List Entry) (nodes : List Inode) → built entries ≡ Ok nodes → IsTreeOf entries nodes
built-tree_of entries nodes e =
    let a = adds_all-added 0 top_alone nodes entries top_alone-tree e in
    record {
      count = omega (arith, a.count);
      objects = λ k entry is. let n : 1 + k ≡ suc k = omega arith in subst (λ x. object_at nodes x ≡ Some (object_of entry.what)) n (a.objects k entry is);
      names = λ k entry is. let n : 1 + k ≡ suc k = omega arith in subst (λ x. Stands nodes TOP x (reverse entry.at)) n (a.names k entry is);
    }

pub built_stands : (entries : List Entry) (tree : State) → IsBuilt entries tree → IsTreeOf entries tree.nodes
built_stands entries tree built_so = built-tree_of entries tree.nodes built_so.0
