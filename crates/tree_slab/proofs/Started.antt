-- An index is built node by node: first the maps, then the entries.
use Rattle.std.proofs.Common.{◌≡◌, ℕ, zero, suc, ◌+◌, ◌<◌, ◌≤◌, Bool, true, if◌then◌else◌, ◌==◌, ◌&&◌, not, List, [], ◌∷◌, ◌++◌, get_or, length, take, Option, Some, None, is_some, refl, ap, sym, ◌∙◌, inl, inr, ⊎_elim, subst, eq-eqb, arith}
use Rattle.std.specs.Prelude.{slice_get}
use Rattle.std.specs.Option.{option_map}
use Rattle.std.proofs.lemmas.Bool.{cases_eq, ne_eqb, cases_lt}
use Rattle.std.proofs.lemmas.List.{take_more, length-take, take_all}
use Rattle.std.proofs.lemmas.Option.{none-some}
use Rattle.tree_model.specs.declared.inode.Inode.{Inode}
use Rattle.tree_model.specs.declared.inode.Place.{Place}
use Rattle.tree_model.specs.State.{place_at, is_directory, is_gone}
use Rattle.tree_model.specs.Trees.{IsTree}
use Rattle.tree_model.proofs.Children.{entry}
use Rattle.tree_model.proofs.Hanging.{Rooted-parent}
use Rattle.tree_slab.specs.Directories.{entries_at, has_map, entry_in, with_entry, new_entries}
use Rattle.tree_slab.specs.Index.{is_standing_dir, Agrees, IsIndexed, HasEmptyMaps, HasParentMap, Links}
use Rattle.tree_slab.proofs.Grown.{entry_in-more, has_map-more, length-more}
use Rattle.tree_slab.proofs.Agreement.{alike, made_entry, unplaced_entry}
use Rattle.tree_model.proofs.PlaceLaws.{Rooted-stands}

abbrev Tables : Type 0
Tables = List (Option (List (List ℕ × ℕ)))

-- ---- the maps

-- the maps of the first nodes, without entries
pub record HasFirstMaps (nodes : List Inode) (directories : Tables) (i : ℕ) : Type 0 where
  pub entries : (d : ℕ) (n : List ℕ) → entry_in directories d n ≡ None
  pub maps : (x : ℕ) → x < i → has_map directories x ≡ is_standing_dir nodes x
  pub count : length directories ≡ i

pub one_map_more : (nodes : List Inode) (directories : Tables) (i : ℕ) (mapped : Bool) → HasFirstMaps nodes directories i → mapped ≡ is_standing_dir nodes i
    → HasFirstMaps nodes (directories ++ new_entries mapped ∷ []) (i + 1)
one_map_more nodes directories i mapped h standing = record {
  entries = λ d n. entry_in-more directories mapped d n ∙ h.entries d n;
  maps = maps;
  count = length-more directories mapped ∙ (let c = h.count in omega arith);
}
  where
    maps : (x : ℕ) → x < i + 1 → has_map (directories ++ new_entries mapped ∷ []) x ≡ is_standing_dir nodes x
    maps x less = has_map-more directories mapped x ∙ elim (cases_eq x i) as (λ _. (if x == length directories then mapped else has_map directories x) ≡ is_standing_dir nodes x) [
      | inl q ↦ rw (eq-eqb x (length directories) (q ∙ sym h.count)) (standing ∙ ap (is_standing_dir nodes) (sym q))
      | inr ne ↦ rw (ne_eqb x (length directories) (λ q. ne (q ∙ h.count))) (h.maps x (omega arith))
    ]

slice_get-past : (nodes : List Inode) (x : ℕ) → length nodes ≤ x → slice_get nodes x ≡ None
slice_get-past [] x past = refl
slice_get-past (inode ∷ nodes) zero past = absurd (omega arith)
slice_get-past (inode ∷ nodes) (suc x) past = slice_get-past nodes x (omega arith)

entries_at-past : (directories : Tables) (x : ℕ) → length directories ≤ x → entries_at directories x ≡ None
entries_at-past [] x past = refl
entries_at-past (first ∷ directories) zero past = absurd (omega arith)
entries_at-past (first ∷ directories) (suc x) past = entries_at-past directories x (omega arith)

pub all_maps : (nodes : List Inode) (directories : Tables) (i : ℕ) → length nodes ≤ i → i ≤ length nodes → HasFirstMaps nodes directories i → HasEmptyMaps nodes directories
all_maps nodes directories i whole most h = record { entries = h.entries; maps = maps; count = let c = h.count in omega arith }
  where
    past : (x : ℕ) → i ≤ x → has_map directories x ≡ is_standing_dir nodes x
    past x less =
        ap is_some (entries_at-past directories x (let c = h.count in omega arith))
        ∙ sym (ap (λ o. is_directory (option_map (λ inode. inode.object) o) && not (is_gone nodes x)) (slice_get-past nodes x (omega arith)))

    maps : (x : ℕ) → has_map directories x ≡ is_standing_dir nodes x
    maps x = ⊎_elim (λ less. h.maps x less) (λ more. past x more) (cases_lt x i)

-- ---- the entries

parent_standing : (nodes : List Inode) → IsTree nodes → (x : ℕ) (place : Place) → place_at nodes x ≡ Some place → is_standing_dir nodes place.parent ≡ true
parent_standing nodes t x place p =
    rw (t.parents_are_dirs x place p, Rooted-stands (Rooted-parent nodes t x place p)) refl

place_at-taken : (nodes : List Inode) (i y : ℕ) (place : Place) → place_at (take i nodes) y ≡ Some place → (y < i) × (place_at nodes y ≡ Some place)
place_at-taken [] zero y place e = absurd (none-some place e)
place_at-taken [] (suc i) y place e = absurd (none-some place e)
place_at-taken (inode ∷ nodes) zero y place e = absurd (none-some place e)
place_at-taken (inode ∷ nodes) (suc i) zero place e = (omega arith, e)
place_at-taken (inode ∷ nodes) (suc i) (suc y) place e = let r = place_at-taken nodes i y place e in (let less = r.0 in omega arith, r.1)

place_at-get : (nodes : List Inode) (i : ℕ) (inode : Inode) → i < length nodes → inode ≡ get_or nodes i inode → place_at nodes i ≡ inode.place
place_at-get [] i inode more is = absurd (omega arith)
place_at-get (first ∷ nodes) zero inode more is = ap (λ node. node.place) (sym is)
place_at-get (first ∷ nodes) (suc i) inode more is = place_at-get nodes i inode (omega arith) is

-- the maps with the entries of the first nodes
pub record HasFirstEntries (nodes : List Inode) (directories : Tables) (i : ℕ) : Type 0 where
  pub entries : Agrees (entry_in directories) (take i nodes)
  pub maps : (x : ℕ) → has_map directories x ≡ is_standing_dir nodes x
  pub count : length directories ≡ length nodes

pub no_entries_yet : (nodes : List Inode) (directories : Tables) → HasEmptyMaps nodes directories → HasFirstEntries nodes directories 0
no_entries_yet nodes directories h = record {
  entries = record {
    found = λ d n x e. absurd (none-some x (sym (h.entries d n) ∙ e));
    kept = λ d n x p. absurd (none-some (entry d n) (sym (none nodes x) ∙ p));
  };
  maps = h.maps;
  count = h.count;
}
  where
    none : (nodes : List Inode) (x : ℕ) → place_at (take 0 nodes) x ≡ None
    none [] x = refl
    none (inode ∷ nodes) x = refl

pub parent_has_map : (nodes : List Inode) (directories : Tables) (i : ℕ) (inode : Inode) → IsTree nodes → HasFirstEntries nodes directories i → i < length nodes → inode ≡ get_or nodes i inode → HasParentMap directories inode.place
parent_has_map nodes directories i inode t h more is = by inode.place (place_at-get nodes i inode more is)
  where
    by : (o : Option Place) → place_at nodes i ≡ o → HasParentMap directories o
    by None p = tt
    by (Some place) p = h.maps place.parent ∙ parent_standing nodes t i place p

pub one_entry_more : (nodes : List Inode) (old new : Tables) (i : ℕ) (inode : Inode) → IsTree nodes → HasFirstEntries nodes old i → i < length nodes → inode ≡ get_or nodes i inode
    → Links old new inode.place i → HasFirstEntries nodes new (i + 1)
one_entry_more nodes old new i inode t h more is links = by inode.place refl links
  where
    taken : take (i + 1) nodes ≡ take i nodes ++ inode ∷ []
    taken = take_more nodes i inode more ∙ ap (λ node. take i nodes ++ node ∷ []) (sym is)

    last : length (take i nodes) ≡ i
    last = let l = length-take i nodes in omega arith

    by : (o : Option Place) → inode.place ≡ o → Links old new o i → HasFirstEntries nodes new (i + 1)
    by None p same = record {
      entries = subst (λ all. Agrees (entry_in new) all) (sym taken)
          (alike (entry_in old) (entry_in new) (take i nodes ++ inode ∷ []) (λ f m. ap (λ directories. entry_in directories f m) same)
          (unplaced_entry (entry_in old) (take i nodes) h.entries inode p));
      maps = λ x. ap (λ directories. has_map directories x) same ∙ h.maps x;
      count = ap length same ∙ h.count;
    }
    by (Some place) p s = record {
      entries = subst (λ all. Agrees (entry_in new) all) (sym taken)
          (alike (with_entry (entry_in old) place.parent place.name (Some (length (take i nodes)))) (entry_in new) (take i nodes ++ inode ∷ [])
          (λ f m. s.entries f m ∙ ap (λ x. with_entry (entry_in old) place.parent place.name (Some x) f m) (sym last))
          (made_entry (entry_in old) (take i nodes) h.entries place.parent place.name inode (none (entry_in old place.parent place.name) refl) p));
      maps = λ x. s.maps x ∙ h.maps x;
      count = s.count ∙ h.count;
    }
      where
        none : (o : Option ℕ) → entry_in old place.parent place.name ≡ o → entry_in old place.parent place.name ≡ None
        none None e = e
        none (Some y) e =
            let r = place_at-taken nodes i y place (h.entries.found place.parent place.name y e) in
            let same = t.apart y i place r.1 (place_at-get nodes i inode more is ∙ p) in
            let less = r.0 in absurd (omega arith)

pub all_entries : (nodes : List Inode) (directories : Tables) (i : ℕ) → IsTree nodes → length nodes ≤ i → HasFirstEntries nodes directories i → IsIndexed nodes directories
all_entries nodes directories i t whole h = record { tree = t; entries = subst (λ all. Agrees (entry_in directories) all) (take_all i nodes whole) h.entries; maps = h.maps; count = h.count }
