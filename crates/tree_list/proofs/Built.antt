-- A tree that is built of entries is a tree, and each entry stands in it at its names.
use Rattle.std.proofs.Common.{◌≡◌, ℕ, zero, suc, List, [], ◌∷◌, Some, None, Result, Ok, Err, refl, sym, ap, ◌∙◌, subst, arith}
use Rattle.std.specs.Prelude.{slice_get}
use Rattle.path_text.specs.declared.errno.Errno.{Errno}
use Rattle.tree_model.specs.declared.inode.Inode.{Inode}
use Rattle.tree_model.specs.declared.inode.Object.{Object}
use Rattle.tree_model.specs.declared.inode.Object.TheVariants as object
use Rattle.tree_model.specs.declared.inode.Place.{Place}
use Rattle.tree_model.specs.State.{State, TOP, object_at, place_at, child}
use Rattle.tree_model.specs.Entries.{refuse_by, makes}
use Rattle.tree_model.specs.Trees.{IsTree, IsState}
use Rattle.tree_model.proofs.Refusals.{with_some-both, refuse_by-both}
use Rattle.tree_model.proofs.Changed.{Changed, Grows, Grows-refl, Grows-trans, Changed-grows, IfDone, Changed-tree, MakeDir-changed, MakeFile-changed, MakeLink-changed}
use Rattle.tree_list.specs.Build.{top_alone, object_of, new_fault, makes_at, adds, with_added, adds_all, built, with_nodes, IsBuilt}
use Rattle.tree_list.specs.declared.build.New.{New}
use Rattle.tree_list.specs.declared.build.New.TheVariants.{Dir, File, Link}
use Rattle.tree_list.specs.declared.build.Entry.{Entry}
use Rattle.tree_list.specs.declared.build.BuildFault.{BuildFault}

-- ---- the nodes stay a tree

makes-changed : (nodes : List Inode) (d : ℕ) (n : List ℕ) (what : New) → new_fault what ≡ None → IfDone (Changed nodes) (makes nodes d n (object_of what))
makes-changed nodes d n Dir e = MakeDir-changed nodes d n
makes-changed nodes d n File e = MakeFile-changed nodes d n
makes-changed nodes d n (Link text) e =
    subst (λ fault. IfDone (Changed nodes) (refuse_by fault (makes nodes d n (object.Link text)))) e (MakeLink-changed nodes d n text)

makes_at-changed : (nodes : List Inode) (x : ℕ) (names : List (List ℕ)) (what : New) → new_fault what ≡ None → IfDone (Changed nodes) (makes_at nodes x names (object_of what))
makes_at-changed nodes x [] what e = tt
makes_at-changed nodes x (n ∷ []) what e = makes-changed nodes x n what e
makes_at-changed nodes x (n ∷ m ∷ names) what e =
    with_some-both (IfDone (Changed nodes)) (child nodes x n) _ _ tt (λ c _. makes_at-changed nodes c (m ∷ names) what e)

adds-changed : (nodes : List Inode) (entry : Entry) → IfDone (Changed nodes) (adds nodes entry)
adds-changed nodes entry =
    refuse_by-both (IfDone (Changed nodes)) (new_fault entry.what) _ (λ _. tt) (λ e. makes_at-changed nodes TOP entry.at entry.what e)

pub done : (P : List Inode → Type 0) (r : Result (List Inode) Errno) (nodes : List Inode) → r ≡ Ok nodes → IfDone P r → P nodes
done P r nodes e p = let q : IfDone P (Ok nodes) = subst (IfDone P) e p in q

pub adds-tree : (nodes new : List Inode) (entry : Entry) → IsTree nodes → adds nodes entry ≡ Ok new → IsTree new
adds-tree nodes new entry tree e = Changed-tree tree (done (Changed nodes) (adds nodes entry) new e (adds-changed nodes entry))

-- what goes on after an entry was added
pub added : (r : Result (List Inode) Errno) (k : ℕ) (otherwise : List Inode → Result (List Inode) BuildFault) (new : List Inode)
    → with_added r k otherwise ≡ Ok new → (mid : List Inode) × ((r ≡ Ok mid) × (otherwise mid ≡ Ok new))
added (Ok mid) k otherwise new e = (mid, (refl, e))
added (Err error) k otherwise new e = absurd (cc (e))

adds_all-tree : (k : ℕ) (nodes new : List Inode) (entries : List Entry) → IsTree nodes → adds_all k nodes entries ≡ Ok new → IsTree new
adds_all-tree k nodes new [] tree e = let same : nodes ≡ new = cc (e) in subst IsTree same tree
adds_all-tree k nodes new (entry ∷ entries) tree e =
    let a = added (adds nodes entry) k (λ mid. adds_all (suc k) mid entries) new e in
    adds_all-tree (suc k) a.0 new entries (adds-tree nodes a.0 entry tree a.1.0) a.1.1

adds_all-grows : (k : ℕ) (nodes new : List Inode) (entries : List Entry) → adds_all k nodes entries ≡ Ok new → Grows nodes new
adds_all-grows k nodes new [] e = let same : nodes ≡ new = cc (e) in subst (Grows nodes) same (Grows-refl nodes)
adds_all-grows k nodes new (entry ∷ entries) e =
    let a = added (adds nodes entry) k (λ mid. adds_all (suc k) mid entries) new e in
    Grows-trans (Changed-grows (done (Changed nodes) (adds nodes entry) a.0 a.1.0 (adds-changed nodes entry))) (adds_all-grows (suc k) a.0 new entries a.1.1)

-- a tree with more entries and the same handles is one
pub adds_all_state : (k : ℕ) (old new : State) (entries : List Entry) → adds_all k old.nodes entries ≡ Ok new.nodes → new.handles ≡ old.handles → IsState old → IsState new
adds_all_state k old new entries e same state = record {
  tree = adds_all-tree k old.nodes new.nodes entries state.tree e;
  handles = λ h open_handle is.
      let old_one = state.handles h open_handle (ap (λ hs. slice_get hs h) (sym same) ∙ is) in
      let more = (adds_all-grows k old.nodes new.nodes entries e).longer in
      omega arith;
}

alone_is_free : (x : ℕ) → place_at top_alone x ≡ None
alone_is_free zero = refl
alone_is_free (suc x) = refl

nowhere : {A : Type 0} (x : ℕ) (place : Place) → place_at top_alone x ≡ Some place → A
nowhere x place e = absurd (cc (alone_is_free x, e))

alone_is_dir : (x : ℕ) (what : Object) → object_at top_alone x ≡ Some what → what ≡ object.Dir
alone_is_dir zero what e = cc (e)
alone_is_dir (suc x) what e = absurd (cc (e))

pub top_alone-tree : IsTree top_alone
top_alone-tree = record {
  top_is_dir = refl;
  top_is_free = refl;
  parents_are_dirs = λ x place e. nowhere x place e;
  rooted = λ x place e. nowhere x place e;
  apart = λ x y place e _. nowhere x place e;
  links_have_texts = λ x text e. let no_link = alone_is_dir x (object.Link text) e in absurd (cc (no_link));
}

pub built-tree : (entries : List Entry) (nodes : List Inode) → built entries ≡ Ok nodes → IsTree nodes
built-tree entries nodes e = adds_all-tree 0 top_alone nodes entries top_alone-tree e

-- nodes that are a tree are one with no handle open
state_from_tree : (tree : State) → IsTree tree.nodes → tree.handles ≡ [] → IsState tree
state_from_tree tree is none = record {
  tree = is;
  handles = λ h open_handle e. absurd (cc (none, e));
}

pub new_state : (tree : State) → tree ≡ with_nodes top_alone → IsState tree
new_state tree e = let is : IsState (with_nodes top_alone) = state_from_tree (with_nodes top_alone) top_alone-tree refl in subst IsState (sym e) is

pub built_state : (entries : List Entry) (tree : State) → IsBuilt entries tree → IsState tree
built_state entries tree built_so = state_from_tree tree (built-tree entries tree.nodes built_so.0) built_so.1
