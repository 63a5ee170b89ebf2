-- A test that shows that a state is a tree. It computes, so a closed state passes it by `refl`.
use Rattle.std.proofs.Common.{◌≡◌, ◌≢◌, ℕ, zero, suc, Bool, true, false, not, ◌&&◌, nat_lt, ◌<◌, List, [], ◌∷◌, length, slice_get, Option, Some, None, is_some, ltb-true, refl, sym, ap, ◌∙◌, subst}
use Rattle.std.specs.List.{list_all, list_any}
use Rattle.std.proofs.lemmas.Bool.{false≢true, and_parts, or_parts, not-true}
use Rattle.std.proofs.lemmas.Option.{none-some, same_Some}
use Rattle.path_text.specs.Text.{text_fault}
use Rattle.tree_model.specs.declared.inode.Inode.{Inode}
use Rattle.tree_model.specs.declared.inode.Object.{Object}
use Rattle.tree_model.specs.declared.inode.Object.TheVariants.{Dir, File, Link}
use Rattle.tree_model.specs.declared.inode.OpenHandle.{OpenHandle}
use Rattle.tree_model.specs.declared.inode.Place.{Place}
use Rattle.tree_model.specs.State.{State, TOP, object_at, place_at, is_directory, is_dir, is_at, is_within, names_below, Stands}
use Rattle.tree_model.specs.Trees.{Rooted, IsTree, IsState, top, below}
use Rattle.tree_model.proofs.Children.{entry, is_at-entry}
use Rattle.tree_model.proofs.Standing.{Stands-names_below}

-- ---- the test

abbrev is_none : {A : Type 0} → Option A → Bool
is_none o = not (is_some o)

-- the place is in a directory that stands below the top
abbrev is_placed : List Inode → Option Place → Bool
is_placed nodes None = true
is_placed nodes (Some place) = is_dir nodes place.parent && is_within nodes TOP place.parent

abbrev has_path_text : Object → Bool
has_path_text Dir = true
has_path_text File = true
has_path_text (Link text) = is_none (text_fault text)

-- none of these stands at the place
abbrev is_free : Option Place → List Inode → Bool
is_free None nodes = true
is_free (Some place) nodes = not (list_any (λ inode. is_at place.parent place.name inode.place) nodes)

abbrev are_apart : List Inode → Bool
are_apart [] = true
are_apart (inode ∷ nodes) = is_free inode.place nodes && are_apart nodes

abbrev pub is_tree : List Inode → Bool
is_tree nodes =
    (is_dir nodes TOP && is_none (place_at nodes TOP))
    && (list_all (λ inode. is_placed nodes inode.place && has_path_text inode.object) nodes && are_apart nodes)

abbrev is_within_count : ℕ → Option OpenHandle → Bool
is_within_count n None = true
is_within_count n (Some open_handle) = nat_lt open_handle.node n

abbrev pub is_state : State → Bool
is_state s = is_tree s.nodes && list_all (is_within_count (length s.nodes)) s.handles

-- ---- what it tells

is_directory-is : (o : Option Object) → is_directory o ≡ true → o ≡ Some Dir
is_directory-is None e = absurd (false≢true e)
is_directory-is (Some Dir) e = refl
is_directory-is (Some File) e = absurd (false≢true e)
is_directory-is (Some (Link text)) e = absurd (false≢true e)

pub none_from : {A : Type 0} (o : Option A) → is_none o ≡ true → o ≡ None
none_from None e = refl
none_from (Some x) e = absurd (false≢true e)

-- what a test of all nodes says of one
at_place : (test : Inode → Bool) (nodes : List Inode) → list_all test nodes ≡ true → (x : ℕ) (place : Place) → place_at nodes x ≡ Some place
    → (inode : Inode) × ((inode.place ≡ Some place) × (test inode ≡ true))
at_place test [] all x place e = absurd (none-some place e)
at_place test (inode ∷ nodes) all zero place e = (inode, (e, (and_parts (test inode) (list_all test nodes) all).0))
at_place test (inode ∷ nodes) all (suc x) place e = at_place test nodes (and_parts (test inode) (list_all test nodes) all).1 x place e

at_object : (test : Inode → Bool) (nodes : List Inode) → list_all test nodes ≡ true → (x : ℕ) (object : Object) → object_at nodes x ≡ Some object
    → (inode : Inode) × ((inode.object ≡ object) × (test inode ≡ true))
at_object test [] all x object e = absurd (none-some object e)
at_object test (inode ∷ nodes) all zero object e = (inode, (same_Some inode.object object e, (and_parts (test inode) (list_all test nodes) all).0))
at_object test (inode ∷ nodes) all (suc x) object e = at_object test nodes (and_parts (test inode) (list_all test nodes) all).1 x object e

Rooted-Stands : (nodes : List Inode) (x : ℕ) (names : List (List ℕ)) → Stands nodes TOP x names → Rooted nodes x
Rooted-Stands nodes x [] h = subst (Rooted nodes) (sym h) top
Rooted-Stands nodes x (n ∷ names) h = below (entry h.1.0 n) h.1.1.0 (Rooted-Stands nodes h.1.0 names h.1.1.1)

Rooted-is_within : (nodes : List Inode) (x : ℕ) → is_within nodes TOP x ≡ true → Rooted nodes x
Rooted-is_within nodes x e = by (names_below nodes TOP x) refl e
  where
    by : (o : Option (List (List ℕ))) → names_below nodes TOP x ≡ o → is_some o ≡ true → Rooted nodes x
    by None q e = absurd (false≢true e)
    by (Some names) q e = Rooted-Stands nodes x names (Stands-names_below nodes TOP x names q)

free_of : (place : Place) (nodes : List Inode) → list_any (λ inode. is_at place.parent place.name inode.place) nodes ≡ false → (x : ℕ) → place_at nodes x ≢ Some place
free_of place [] e x p = none-some place p
free_of place (inode ∷ nodes) e zero p =
    let here = (or_parts (is_at place.parent place.name inode.place) (list_any (λ inode. is_at place.parent place.name inode.place) nodes) e).0 in
    false≢true (sym here ∙ ap (is_at place.parent place.name) p ∙ is_at-entry place.parent place.name)
free_of place (inode ∷ nodes) e (suc x) p =
    free_of place nodes (or_parts (is_at place.parent place.name inode.place) (list_any (λ inode. is_at place.parent place.name inode.place) nodes) e).1 x p

-- the first node stands where none of the others does
first_apart : (inode : Inode) (nodes : List Inode) → is_free inode.place nodes ≡ true → (x : ℕ) (place : Place) → inode.place ≡ Some place → place_at nodes x ≢ Some place
first_apart inode nodes e x place q p = by inode.place q e
  where
    by : (o : Option Place) → o ≡ Some place → is_free o nodes ≡ true → ⊥
    by None q e = none-some place q
    by (Some other) q e =
        free_of other nodes (not-true (list_any (λ inode. is_at other.parent other.name inode.place) nodes) e) x (p ∙ sym q)

apart_from : (nodes : List Inode) → are_apart nodes ≡ true → (x y : ℕ) (place : Place) → place_at nodes x ≡ Some place → place_at nodes y ≡ Some place → x ≡ y
apart_from [] e x y place p q = absurd (none-some place p)
apart_from (inode ∷ nodes) e zero zero place p q = refl
apart_from (inode ∷ nodes) e zero (suc y) place p q = absurd (first_apart inode nodes (and_parts (is_free inode.place nodes) (are_apart nodes) e).0 y place p q)
apart_from (inode ∷ nodes) e (suc x) zero place p q = absurd (first_apart inode nodes (and_parts (is_free inode.place nodes) (are_apart nodes) e).0 x place q p)
apart_from (inode ∷ nodes) e (suc x) (suc y) place p q =
    ap suc (apart_from nodes (and_parts (is_free inode.place nodes) (are_apart nodes) e).1 x y place p q)

has_path_text-is : (object : Object) → has_path_text object ≡ true → (text : List ℕ) → object ≡ Link text → text_fault text ≡ None
has_path_text-is object e text q = none_from (text_fault text) (sym (ap has_path_text q) ∙ e)

pub IsTree-from_test : (nodes : List Inode) → is_tree nodes ≡ true → IsTree nodes
IsTree-from_test nodes e =
    let parts = and_parts (is_dir nodes TOP && is_none (place_at nodes TOP))
    (list_all (λ inode. is_placed nodes inode.place && has_path_text inode.object) nodes && are_apart nodes) e in
    let at_top = and_parts (is_dir nodes TOP) (is_none (place_at nodes TOP)) parts.0 in
    let others = and_parts (list_all (λ inode. is_placed nodes inode.place && has_path_text inode.object) nodes) (are_apart nodes) parts.1 in
    record {
      top_is_dir = is_directory-is (object_at nodes TOP) at_top.0;
      top_is_free = none_from (place_at nodes TOP) at_top.1;
      parents_are_dirs = λ x place p. (placed others.0 x place p).0;
      rooted = λ x place p. below place p (Rooted-is_within nodes place.parent (placed others.0 x place p).1);
      apart = apart_from nodes others.1;
      links_have_texts = λ x text p.
          let found = at_object _ nodes others.0 x (Link text) p in
          has_path_text-is found.0.object (and_parts (is_placed nodes found.0.place) (has_path_text found.0.object) found.1.1).1 text found.1.0;
    }
  where
    placed : list_all (λ inode. is_placed nodes inode.place && has_path_text inode.object) nodes ≡ true
        → (x : ℕ) (place : Place) → place_at nodes x ≡ Some place → (is_dir nodes place.parent ≡ true) × (is_within nodes TOP place.parent ≡ true)
    placed all x place p =
        let found = at_place (λ inode. is_placed nodes inode.place && has_path_text inode.object) nodes all x place p in
        let here = (and_parts (is_placed nodes found.0.place) (has_path_text found.0.object) found.1.1).0 in
        and_parts (is_dir nodes place.parent) (is_within nodes TOP place.parent) (sym (ap (is_placed nodes) found.1.0) ∙ here)

handle_within : (n : ℕ) (handles : List (Option OpenHandle)) → list_all (is_within_count n) handles ≡ true
    → (h : ℕ) (open_handle : OpenHandle) → slice_get handles h ≡ Some (Some open_handle) → open_handle.node < n
handle_within n [] all h open_handle e = absurd (none-some (Some open_handle) e)
handle_within n (first ∷ handles) all zero open_handle e =
    ltb-true open_handle.node n (sym (ap (is_within_count n) (same_Some first (Some open_handle) e)) ∙ (and_parts (is_within_count n first) (list_all (is_within_count n) handles) all).0)
handle_within n (first ∷ handles) all (suc h) open_handle e =
    handle_within n handles (and_parts (is_within_count n first) (list_all (is_within_count n) handles) all).1 h open_handle e

pub IsState-from_test : (s : State) → is_state s ≡ true → IsState s
IsState-from_test s e =
    let parts = and_parts (is_tree s.nodes) (list_all (is_within_count (length s.nodes)) s.handles) e in
    record { tree = IsTree-from_test s.nodes parts.0; handles = handle_within (length s.nodes) s.handles parts.1 }
