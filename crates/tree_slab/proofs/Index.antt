-- The index stays one by each change of the entries, as the maps follow the nodes.
use Rattle.std.proofs.Common.{◌≡◌, ◌≢◌, ◌↔◌, ℕ, zero, suc, Bool, true, false, cond, if◌then◌else◌, ◌==◌, ◌&&◌, ◌||◌, not, nat_le, eqb-true, List, [], ◌∷◌, ◌++◌, length, length-append, Option, Some, None, is_some, IsSome, refl, ap, sym, ◌∙◌, inl, inr, ⊎_elim, eq-eqb, arith}
use Rattle.std.specs.Prelude.{slice_get}
use Rattle.std.specs.Bool.{IsTrue}
use Rattle.std.specs.Option.{option_map, option_and_then}
use Rattle.std.specs.Map.{lookup}
use Rattle.std.proofs.lemmas.Bool.{cases_eq, ne_eqb, false≢true, true≢false}
use Rattle.std.proofs.lemmas.Option.{none-some}
use Rattle.std.proofs.Math.Bool.{and-false}
use Rattle.tree_model.specs.declared.inode.Inode.{Inode}
use Rattle.tree_model.specs.declared.inode.Object.{Object}
use Rattle.tree_model.specs.declared.inode.Place.{Place}
use Rattle.tree_model.specs.declared.tree.TheConstants.{NUMBERS_MAX}
use Rattle.tree_model.specs.State.{TOP, object_at, place_at, is_directory, is_dir, is_gone, is_within, has_entries, child, put_at, name_in}
use Rattle.tree_model.specs.Trees.{IsTree, HasPathText}
use Rattle.tree_model.proofs.Places.{length-put_at, object_at-put_at, place_at-within, place_at-put_at, place_at-put_other}
use Rattle.tree_model.proofs.Children.{entry, place_at-child, no_entries}
use Rattle.tree_model.proofs.Changed.{Changed-tree, not_top, made, removed, moved, replaced, exchanged}
use Rattle.tree_slab.specs.Directories.{is_name, entries_at, has_map, entry_in, with_entry, SetsEntry, AddsNode, LosesMap}
use Rattle.tree_slab.specs.Index.{is_standing_dir, IsIndexed}
use Rattle.tree_slab.proofs.Agreement.{with_entry-cases, alike, child-look, taken, made_entry, moved_entry, replaced_entry, exchanged_entry}

abbrev pub Tables : Type 0
Tables = List (Option (List (List ℕ × ℕ)))

-- ---- which directories stand

-- only what a node is, and whether it has a place, tells whether it is a directory that stands
standing-same : (old new : List Inode) (x : ℕ) → object_at new x ≡ object_at old x → is_some (place_at new x) ≡ is_some (place_at old x) → is_standing_dir new x ≡ is_standing_dir old x
standing-same old new x objects places i = is_directory (objects i) && not (not (x == TOP) && not (places i))

standing-gone : (nodes : List Inode) (x : ℕ) → x ≢ TOP → place_at nodes x ≡ None → is_standing_dir nodes x ≡ false
standing-gone nodes x ne free = rw (ne_eqb x TOP ne, free) (and-false (is_dir nodes x))

standing-placed : (nodes : List Inode) (x : ℕ) (place : Place) → place_at nodes x ≡ Some place → is_standing_dir nodes x ≡ is_dir nodes x
standing-placed nodes x place p = rw p (by (is_dir nodes x) (not (x == TOP)))
  where
    by : (b t : Bool) → (b && not (t && false)) ≡ b
    by true true = refl
    by true false = refl
    by false true = refl
    by false false = refl

-- a node that has a place before and after stands as it did
standing-put_some : (nodes : List Inode) (c : ℕ) (was is : Place) → place_at nodes c ≡ Some was → (x : ℕ) → is_standing_dir (put_at nodes c (Some is)) x ≡ is_standing_dir nodes x
standing-put_some nodes c was is p x = standing-same nodes (put_at nodes c (Some is)) x (object_at-put_at nodes c (Some is) x) (elim (cases_eq x c) [
  | inl q ↦ rw (q, place_at-put_at nodes c (Some is) (place_at-within nodes c was p), p) refl
  | inr ne ↦ ap is_some (place_at-put_other nodes c (Some is) x ne)
])

-- the one that loses its place stands no more
standing-put_none : (nodes : List Inode) → IsTree nodes → (c : ℕ) (was : Place) → place_at nodes c ≡ Some was → (x : ℕ) → is_standing_dir (put_at nodes c None) x ≡ (if x == c then false else is_standing_dir nodes x)
standing-put_none nodes t c was p x = elim (cases_eq x c) [
  | inl q ↦ rw (q, eq-eqb c c refl) (standing-gone (put_at nodes c None) c (not_top nodes t c was p) (place_at-put_at nodes c None (place_at-within nodes c was p)))
  | inr ne ↦ rw (ne_eqb x c ne) (standing-same nodes (put_at nodes c None) x (object_at-put_at nodes c None x) (ap is_some (place_at-put_other nodes c None x ne)))
]

-- ---- a directory without entries

no_map : (directories : Tables) (d : ℕ) → has_map directories d ≡ false → (n : List ℕ) → entry_in directories d n ≡ None
no_map directories d none n = on (entries_at directories d) none
  where
    on : (o : Option (List (List ℕ × ℕ))) → is_some o ≡ false → option_and_then (λ entries. lookup (is_name n) entries) o ≡ None
    on None e = refl
    on (Some entries) e = absurd (true≢false e)

abbrev Child : List Inode → ℕ → Type 0
Child nodes d = (x : ℕ) × ((n : List ℕ) × (place_at nodes x ≡ Some (entry d n)))

has_entries-child : (nodes : List Inode) (d : ℕ) → has_entries nodes d ≡ true → Child nodes d
has_entries-child [] d e = absurd (false≢true e)
has_entries-child (inode ∷ nodes) d e = by (λ later. let r = has_entries-child nodes d later in (suc r.0, r.1)) inode.place refl e
  where
    by : (has_entries nodes d ≡ true → Child (inode ∷ nodes) d) → (o : Option Place) → inode.place ≡ o → (is_some (name_in d o) || has_entries nodes d) ≡ true → Child (inode ∷ nodes) d
    by later None p e = later e
    by later (Some place) p e = test (place.parent == d) refl e
      where
        test : (b : Bool) → (place.parent == d) ≡ b → (is_some (cond b (Some place.name) None) || has_entries nodes d) ≡ true → Child (inode ∷ nodes) d
        test true q e = (0, (place.name, p ∙ (λ i. Some (entry (eqb-true place.parent d q i) place.name))))
        test false q e = later e

-- what the maps tell of a directory's entries is what the nodes tell
pub has_entries-look : (nodes : List Inode) (directories : Tables) → IsIndexed nodes directories → (d : ℕ) (empty : Bool)
    → (IsTrue empty ↔ ((n : List ℕ) → entry_in directories d n ≡ None)) → not empty ≡ has_entries nodes d
has_entries-look nodes directories i d empty decided = by empty (has_entries nodes d) decided refl
  where
    by : (b h : Bool) → (IsTrue b ↔ ((n : List ℕ) → entry_in directories d n ≡ None)) → has_entries nodes d ≡ h → not b ≡ h
    by true false decided e = refl
    by false true decided e = refl
    by true true decided e =
        let r = has_entries-child nodes d e in
        absurd (none-some r.0 (sym (decided.0 refl r.1.0) ∙ i.entries.kept d r.1.0 r.0 r.1.1))
    by false false decided e = absurd (false≢true (decided.1 (λ n. none n (entry_in directories d n) refl)))
      where
        none : (n : List ℕ) (o : Option ℕ) → entry_in directories d n ≡ o → o ≡ None
        none n None q = refl
        none n (Some x) q = absurd (no_entries nodes d e x (entry d n) (i.entries.found d n x q) refl)

-- what is no directory, or an empty one, has no entry in the maps
childless_look : (nodes : List Inode) (directories : Tables) → IsIndexed nodes directories → (e : ℕ) → (is_dir nodes e && has_entries nodes e) ≡ false → (n : List ℕ) → entry_in directories e n ≡ None
childless_look nodes directories i e childless n = by (is_dir nodes e) refl
  where
    none : has_entries nodes e ≡ false → (o : Option ℕ) → entry_in directories e n ≡ o → o ≡ None
    none empty None q = refl
    none empty (Some x) q = absurd (no_entries nodes e empty x (entry e n) (i.entries.found e n x q) refl)

    by : (b : Bool) → is_dir nodes e ≡ b → entry_in directories e n ≡ None
    by true q = none (sym (ap (λ b. b && has_entries nodes e) q) ∙ childless) (entry_in directories e n) refl
    by false q = no_map directories e (i.maps e ∙ ap (λ b. b && not (is_gone nodes e)) q) n

-- where a map without entries goes, no look-up changes
pub lost_look : (mid new : Tables) (e : ℕ) → ((n : List ℕ) → entry_in mid e n ≡ None) → LosesMap mid new e → (f : ℕ) (m : List ℕ) → entry_in new f m ≡ entry_in mid f m
lost_look mid new e none l f m = elim (cases_eq f e) [
  | inl q ↦ rw (q, l.entries e, eq-eqb e e refl) (sym (none m))
  | inr ne ↦ rw (l.entries f, ne_eqb f e ne) refl
]

lost_map : (mid new : Tables) (e : ℕ) → LosesMap mid new e → (f : ℕ) → has_map new f ≡ (if f == e then false else has_map mid f)
lost_map mid new e l f = ap is_some (l.entries f) ∙ by (f == e)
  where
    by : (b : Bool) → is_some (if b then None else entries_at mid f) ≡ (if b then false else has_map mid f)
    by true = refl
    by false = refl

-- an entry set to lead nowhere, or elsewhere, is no entry of a directory that has none
none_set : (old mid : Tables) (d : ℕ) (n : List ℕ) → SetsEntry old mid d n None → (e : ℕ) → ((m : List ℕ) → entry_in old e m ≡ None) → (m : List ℕ) → entry_in mid e m ≡ None
none_set old mid d n s e none m = s.entries e m ∙ ⊎_elim (λ r. r.1) (λ r. r.1 ∙ none m) (with_entry-cases (entry_in old) d n None e m)

-- ---- the changes

module _ (nodes : List Inode) (old : Tables) (i : IsIndexed nodes old) where
  pub child-index : (d : ℕ) (n : List ℕ) → child nodes d n ≡ entry_in old d n
  child-index d n = child-look (entry_in old) nodes i.entries d n

  look_from_child : (d : ℕ) (n : List ℕ) (c : ℕ) → child nodes d n ≡ Some c → entry_in old d n ≡ Some c
  look_from_child d n c e = sym (child-index d n) ∙ e

  pub present : (d : ℕ) (n : List ℕ) (c : ℕ) → child nodes d n ≡ Some c → IsSome (entry_in old d n)
  present d n c e = ap is_some (look_from_child d n c e)

  -- an entry is there once another leads to some node
  pub present_after : (mid : Tables) (f : ℕ) (m : List ℕ) (x d : ℕ) (n : List ℕ) (c : ℕ) → SetsEntry old mid f m (Some x) → child nodes d n ≡ Some c → IsSome (entry_in mid d n)
  present_after mid f m x d n c s e =
      ap is_some (s.entries d n) ∙ ⊎_elim (λ r. ap is_some r.1) (λ r. ap is_some r.1 ∙ present d n c e) (with_entry-cases (entry_in old) f m (Some x) d n)

  -- what has its entry taken away has none of its own
  pub emptied : (mid : Tables) (d : ℕ) (n : List ℕ) (c : ℕ) → (is_dir nodes c && has_entries nodes c) ≡ false → SetsEntry old mid d n None → (m : List ℕ) → entry_in mid c m ≡ None
  emptied mid d n c childless s = none_set old mid d n s c (childless_look nodes old i c childless)

  -- nor has what is replaced
  pub replaced_empty : (mid left : Tables) (d : ℕ) (n : List ℕ) (f : ℕ) (m : List ℕ) (c e : ℕ) → child nodes f m ≡ Some e → (is_dir nodes e && has_entries nodes e) ≡ false
      → SetsEntry old mid f m (Some c) → SetsEntry mid left d n None → (k : List ℕ) → entry_in left e k ≡ None
  replaced_empty mid left d n f m c e other childless s s2 =
      let none = childless_look nodes old i e childless in
      let apart : f ≢ e = λ q. none-some e (sym (none m) ∙ ap (λ k. entry_in old k m) (sym q) ∙ look_from_child f m e other) in
      none_set mid left d n s2 e (λ k. s.entries e k ∙ ⊎_elim (λ r. absurd (apart (sym (ap (λ place. place.parent) r.0)))) (λ r. r.1 ∙ none k) (with_entry-cases (entry_in old) f m (Some c) e k))

  pub removed_index : (mid new : Tables) (d : ℕ) (n : List ℕ) (c : ℕ) → child nodes d n ≡ Some c → (is_dir nodes c && has_entries nodes c) ≡ false
      → SetsEntry old mid d n None → LosesMap mid new c → IsIndexed (put_at nodes c None) new
  removed_index mid new d n c there childless s l =
      let was = place_at-child nodes d n c there in
      record {
        tree = Changed-tree i.tree (removed d n c there childless);
        entries = alike (with_entry (entry_in old) d n None) (entry_in new) (put_at nodes c None)
            (λ f m. lost_look mid new c (emptied mid d n c childless s) l f m ∙ s.entries f m)
            (taken (entry_in old) nodes i.entries d n c (look_from_child d n c there));
        maps = λ x. lost_map mid new c l x ∙ ap (λ b. if x == c then false else b) (s.maps x ∙ i.maps x) ∙ sym (standing-put_none nodes i.tree c (entry d n) was x);
        count = l.count ∙ s.count ∙ i.count ∙ sym (length-put_at nodes c None);
      }

  module _ (d : ℕ) (n : List ℕ) (f : ℕ) (m : List ℕ) (c : ℕ) (dir : is_dir nodes f ≡ true) (stays : is_gone nodes f ≡ false) (there : child nodes d n ≡ Some c) (out : is_within nodes c f ≡ false) where
    was : place_at nodes c ≡ Some (entry d n)
    was = place_at-child nodes d n c there

    pub moved_index : (mid new : Tables) → child nodes f m ≡ None → SetsEntry old mid f m (Some c) → SetsEntry mid new d n None → IsIndexed (put_at nodes c (Some (entry f m))) new
    moved_index mid new none s s2 =
        record {
          tree = Changed-tree i.tree (moved d n f m c dir stays there none out);
          entries = alike (with_entry (with_entry (entry_in old) f m (Some c)) d n None) (entry_in new) (put_at nodes c (Some (entry f m)))
              (λ g k. s2.entries g k ∙ ap (λ z. if g == d && is_name n k then None else z) (s.entries g k))
              (moved_entry (entry_in old) nodes i.entries d n f m c (look_from_child d n c there) (sym (child-index f m) ∙ none));
          maps = λ x. s2.maps x ∙ s.maps x ∙ i.maps x ∙ sym (standing-put_some nodes c (entry d n) (entry f m) was x);
          count = s2.count ∙ s.count ∙ i.count ∙ sym (length-put_at nodes c (Some (entry f m)));
        }

    pub replaced_index : (mid left new : Tables) (e : ℕ) → child nodes f m ≡ Some e → c ≢ e → (is_dir nodes e && has_entries nodes e) ≡ false
        → SetsEntry old mid f m (Some c) → SetsEntry mid left d n None → LosesMap left new e → IsIndexed (put_at (put_at nodes e None) c (Some (entry f m))) new
    replaced_index mid left new e other ne childless s s2 l =
        let e_was = place_at-child nodes f m e other in
        let still = place_at-put_other nodes e None c ne ∙ was in
        record {
          tree = Changed-tree i.tree (replaced d n f m c e dir stays there other ne out childless);
          entries = alike (with_entry (with_entry (entry_in old) f m (Some c)) d n None) (entry_in new) (put_at (put_at nodes e None) c (Some (entry f m)))
              (λ g k. lost_look left new e (replaced_empty mid left d n f m c e other childless s s2) l g k ∙ s2.entries g k ∙ ap (λ z. if g == d && is_name n k then None else z) (s.entries g k))
              (replaced_entry (entry_in old) nodes i.entries d n f m c (look_from_child d n c there) e (look_from_child f m e other) ne);
          maps = λ x. lost_map left new e l x ∙ ap (λ b. if x == e then false else b) (s2.maps x ∙ s.maps x ∙ i.maps x)
              ∙ sym (standing-put_none nodes i.tree e (entry f m) e_was x) ∙ sym (standing-put_some (put_at nodes e None) c (entry d n) (entry f m) still x);
          count = l.count ∙ s2.count ∙ s.count ∙ i.count ∙ sym (length-put_at nodes e None) ∙ sym (length-put_at (put_at nodes e None) c (Some (entry f m)));
        }

  pub exchanged_index : (mid new : Tables) (d : ℕ) (n : List ℕ) (f : ℕ) (m : List ℕ) (c e : ℕ)
      → is_dir nodes d ≡ true → is_dir nodes f ≡ true → child nodes d n ≡ Some c → child nodes f m ≡ Some e → c ≢ e
      → is_within nodes c f ≡ false → is_within nodes e d ≡ false
      → SetsEntry old mid f m (Some c) → SetsEntry mid new d n (Some e) → IsIndexed (put_at (put_at nodes c (Some (entry f m))) e (Some (entry d n))) new
  exchanged_index mid new d n f m c e dir dir2 there other ne out out2 s s2 =
      let c_was = place_at-child nodes d n c there in
      let e_was = place_at-child nodes f m e other in
      let still = place_at-put_other nodes c (Some (entry f m)) e (λ q. ne (sym q)) ∙ e_was in
      record {
        tree = Changed-tree i.tree (exchanged d n f m c e dir dir2 there other ne out out2);
        entries = alike (with_entry (with_entry (entry_in old) f m (Some c)) d n (Some e)) (entry_in new) (put_at (put_at nodes c (Some (entry f m))) e (Some (entry d n)))
            (λ g k. s2.entries g k ∙ ap (λ z. if g == d && is_name n k then Some e else z) (s.entries g k))
            (exchanged_entry (entry_in old) nodes i.entries d n f m c (look_from_child d n c there) e (look_from_child f m e other) ne);
        maps = λ x. s2.maps x ∙ s.maps x ∙ i.maps x ∙ sym (standing-put_some nodes c (entry d n) (entry f m) c_was x) ∙ sym (standing-put_some (put_at nodes c (Some (entry f m))) e (entry f m) (entry d n) still x);
        count = s2.count ∙ s.count ∙ i.count ∙ sym (length-put_at nodes c (Some (entry f m))) ∙ sym (length-put_at (put_at nodes c (Some (entry f m))) e (Some (entry d n)));
      }

-- ---- a node more

slice_get-other : (nodes : List Inode) (inode : Inode) (x : ℕ) → x ≢ length nodes → slice_get (nodes ++ inode ∷ []) x ≡ slice_get nodes x
slice_get-other [] inode zero ne = absurd (ne refl)
slice_get-other [] inode (suc x) ne = refl
slice_get-other (first ∷ nodes) inode zero ne = refl
slice_get-other (first ∷ nodes) inode (suc x) ne = slice_get-other nodes inode x (λ q. ne (ap suc q))

slice_get-new : (nodes : List Inode) (inode : Inode) → slice_get (nodes ++ inode ∷ []) (length nodes) ≡ Some inode
slice_get-new [] inode = refl
slice_get-new (first ∷ nodes) inode = slice_get-new nodes inode

pub standing-more : (nodes : List Inode) (inode : Inode) (x : ℕ) → x ≢ length nodes → is_standing_dir (nodes ++ inode ∷ []) x ≡ is_standing_dir nodes x
standing-more nodes inode x ne = standing-same nodes (nodes ++ inode ∷ []) x (ap (option_map (λ node. node.object)) same) (ap (λ o. is_some (option_and_then (λ node. node.place) o)) same)
  where
    same : slice_get (nodes ++ inode ∷ []) x ≡ slice_get nodes x
    same = slice_get-other nodes inode x ne

pub made_index : (nodes : List Inode) (old new : Tables) → IsIndexed nodes old → (d : ℕ) (n : List ℕ) (object : Object) (mapped : Bool)
    → is_dir nodes d ≡ true → is_gone nodes d ≡ false → child nodes d n ≡ None → nat_le NUMBERS_MAX (length nodes) ≡ false → HasPathText object
    → mapped ≡ is_directory (Some object) → AddsNode old new d n mapped
    → IsIndexed (nodes ++ record { object = object; place = Some (entry d n) } ∷ []) new
made_index nodes old new i d n object mapped dir stays none few fits kind a =
    record {
      tree = Changed-tree i.tree (made d n object dir stays none few fits);
      entries = alike (with_entry (entry_in old) d n (Some (length nodes))) (entry_in new) (nodes ++ inode ∷ [])
          (λ f m. a.entries f m ∙ ap (λ last. with_entry (entry_in old) d n (Some last) f m) i.count)
          (made_entry (entry_in old) nodes i.entries d n inode (sym (child-index nodes old i d n) ∙ none) refl);
      maps = maps;
      count = a.count ∙ ap suc i.count ∙ sym (omega (arith, length-append nodes (inode ∷ [])));
    }
  where
    inode : Inode
    inode = record { object = object; place = Some (entry d n) }

    maps : (x : ℕ) → has_map new x ≡ is_standing_dir (nodes ++ inode ∷ []) x
    maps x = elim (cases_eq x (length nodes)) [
      | inl q ↦ rw (a.maps x, i.count, q, eq-eqb (length nodes) (length nodes) refl) (kind ∙ sym (standing-placed (nodes ++ inode ∷ []) (length nodes) (entry d n) (ap (option_and_then (λ node. node.place)) new_is) ∙ ap (λ o. is_directory (option_map (λ node. node.object) o)) new_is))
      | inr ne ↦ rw (a.maps x, i.count, ne_eqb x (length nodes) ne) (i.maps x ∙ sym (standing-more nodes inode x ne))
    ]
      where
        new_is : slice_get (nodes ++ inode ∷ []) (length nodes) ≡ Some inode
        new_is = slice_get-new nodes inode
