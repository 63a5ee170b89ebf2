-- A map more, a map less, and a node more.
use Rattle.std.proofs.Common.{◌≡◌, ◌≢◌, ◌⊎◌, ℕ, zero, suc, ◌<◌, Bool, true, false, if◌then◌else◌, ◌==◌, List, [], ◌∷◌, ◌++◌, set, length, length-append, map, Option, Some, None, is_some, IsSome, refl, ap, sym, ◌∙◌, inl, inr, ⊎_elim, eq-eqb, arith}
use Rattle.std.proofs.lemmas.Bool.{cases_eq, ne_eqb, false≢true}
use Rattle.std.proofs.lemmas.List.{get_or-set_same, get_or-set_other, get_or_past, length-set, map-append}
use Rattle.std.proofs.lemmas.Option.{none-some, same_Some}
use Rattle.std.specs.Option.{option_and_then}
use Rattle.std.specs.Map.{lookup}
use Rattle.slab.specs.Slab.{Slab, get, Updates}
use Rattle.tree_slab.specs.Directories.{is_name, entries_at, has_map, entry_in, SetsEntry, AddsNode, LosesMap, new_entries, key_at, entries_of, HasEachMap, ChangesMap, SameMaps, IsNewMap, AddsMap}
use Rattle.tree_slab.proofs.Keys.{entries_at-view, length-view, same_each, same_view, changed_each, changed_entry}

-- ---- a map less

module _ (keys : List (Option ℕ)) (old new : Slab (List (List ℕ × ℕ))) (h : HasEachMap keys old) (d key : ℕ) (there : key_at keys d ≡ Some key) (u : Updates old new key None) where
  within : d < length keys
  within = grind (arith, get_or_past)

  key_at-taken : (x : ℕ) → x ≢ d → key_at (set keys d None) x ≡ key_at keys x
  key_at-taken x ne = get_or-set_other keys d x None None ne

  key_at-here : key_at (set keys d None) d ≡ None
  key_at-here = get_or-set_same keys d None None within

  kept : (x k : ℕ) → key_at (set keys d None) x ≡ Some k → (x ≢ d) × (key_at keys x ≡ Some k)
  kept x k e =
      let ne : x ≢ d = λ q. none-some k (sym key_at-here ∙ ap (key_at (set keys d None)) (sym q) ∙ e) in
      (ne, sym (key_at-taken x ne) ∙ e)

  other_key : (x k : ℕ) → x ≢ d → key_at keys x ≡ Some k → k ≢ key
  other_key x k ne e = λ q. ne (h.apart x d key (e ∙ ap Some q) there)

  pub lost_each : HasEachMap (set keys d None) new
  lost_each = record {
    there = λ x k e. let r = kept x k e in ap is_some (u.others k (other_key x k r.0 r.1)) ∙ h.there x k r.1;
    apart = λ x y k e f. h.apart x y k (kept x k e).1 (kept y k f).1;
    used = λ k e. used k e;
  }
    where
      used : (k : ℕ) → IsSome (get new k) → (x : ℕ) × (key_at (set keys d None) x ≡ Some k)
      used k e = elim (cases_eq k key) [
        | inl q ↦ absurd (false≢true (sym (ap is_some (ap (get new) q ∙ u.changed)) ∙ e))
        | inr ne ↦
            let r = h.used k (sym (ap is_some (u.others k ne)) ∙ e) in
            let apart : r.0 ≢ d = λ q. ne (same_Some k key (sym r.1 ∙ ap (key_at keys) q ∙ there)) in
            (r.0, key_at-taken r.0 apart ∙ r.1)
      ]

  entries_lost : (f : ℕ) → entries_at (map (entries_of new) (set keys d None)) f ≡ (if f == d then None else entries_at (map (entries_of old) keys) f)
  entries_lost f = elim (cases_eq f d) [
    | inl q ↦ rw (q, eq-eqb d d refl, entries_at-view (set keys d None) new d, key_at-here) refl
    | inr ne ↦ rw (ne_eqb f d ne, entries_at-view (set keys d None) new f, entries_at-view keys old f, key_at-taken f ne) (at (key_at keys f) refl ne)
  ]
    where
      at : (o : Option ℕ) → key_at keys f ≡ o → f ≢ d → entries_of new o ≡ entries_of old o
      at None e ne = refl
      at (Some k) e ne = rw (u.others k (other_key f k ne e)) refl

  pub lost_map : LosesMap (map (entries_of old) keys) (map (entries_of new) (set keys d None)) d
  lost_map = record {
    entries = entries_lost;
    count = length-view (set keys d None) new ∙ length-set keys d None ∙ sym (length-view keys old);
  }

-- ---- a node more, with a map or without

key_at-one_more : (keys : List (Option ℕ)) (key : Option ℕ) (x k : ℕ) → key_at (keys ++ key ∷ []) x ≡ Some k → (key_at keys x ≡ Some k) ⊎ ((x ≡ length keys) × (key ≡ Some k))
key_at-one_more [] key zero k e = inr (refl, e)
key_at-one_more [] key (suc x) k e = absurd (none-some k e)
key_at-one_more (first ∷ keys) key zero k e = inl e
key_at-one_more (first ∷ keys) key (suc x) k e = ⊎_elim (λ r. inl r) (λ r. inr (ap suc r.0, r.1)) (key_at-one_more keys key x k e)

key_at-append : (keys : List (Option ℕ)) (key : Option ℕ) (x k : ℕ) → key_at keys x ≡ Some k → key_at (keys ++ key ∷ []) x ≡ Some k
key_at-append [] key x k e = absurd (none-some k e)
key_at-append (first ∷ keys) key zero k e = e
key_at-append (first ∷ keys) key (suc x) k e = key_at-append keys key x k e

key_at-last : (keys : List (Option ℕ)) (key : Option ℕ) → key_at (keys ++ key ∷ []) (length keys) ≡ key
key_at-last [] key = refl
key_at-last (first ∷ keys) key = key_at-last keys key

view-apart : (keys : List (Option ℕ)) (old new : Slab (List (List ℕ × ℕ))) → ((x k : ℕ) → key_at keys x ≡ Some k → entries_of new (Some k) ≡ entries_of old (Some k)) → map (entries_of new) keys ≡ map (entries_of old) keys
view-apart [] old new same = refl
view-apart (None ∷ keys) old new same = rw (view-apart keys old new (λ x k e. same (suc x) k e)) refl
view-apart (Some k ∷ keys) old new same = rw (same zero k refl, view-apart keys old new (λ x k e. same (suc x) k e)) refl

module _ (keys : List (Option ℕ)) (old new : Slab (List (List ℕ × ℕ))) (h : HasEachMap keys old) where
  each_with_none : new ≡ old → HasEachMap (keys ++ None ∷ []) new
  each_with_none same = record {
    there = λ x k e. ap (λ maps. is_some (get maps k)) same ∙ h.there x k (was x k e);
    apart = λ x y k e f. h.apart x y k (was x k e) (was y k f);
    used = λ k e. let r = h.used k (sym (ap (λ maps. is_some (get maps k)) same) ∙ e) in (r.0, key_at-append keys None r.0 k r.1);
  }
    where
      was : (x k : ℕ) → key_at (keys ++ None ∷ []) x ≡ Some k → key_at keys x ≡ Some k
      was x k e = ⊎_elim (λ r. r) (λ r. absurd (none-some k r.1)) (key_at-one_more keys None x k e)

  module _ (key : ℕ) (n : IsNewMap old new key) where
    old_key : (x k : ℕ) → key_at keys x ≡ Some k → k ≢ key
    old_key x k e = λ q. false≢true (sym (ap is_some (ap (get old) q ∙ n.free)) ∙ h.there x k e)

    each_with_new : HasEachMap (keys ++ Some key ∷ []) new
    each_with_new = record { there = there; apart = apart; used = used }
      where
        new_there : IsSome (get new key)
        new_there = ap is_some n.empty

        there : (x k : ℕ) → key_at (keys ++ Some key ∷ []) x ≡ Some k → IsSome (get new k)
        there x k e = ⊎_elim (λ r. ap is_some (n.others k (old_key x k r)) ∙ h.there x k r) (λ r. ap (λ j. is_some (get new j)) (sym (same_Some key k r.1)) ∙ new_there) (key_at-one_more keys (Some key) x k e)

        apart : (x y k : ℕ) → key_at (keys ++ Some key ∷ []) x ≡ Some k → key_at (keys ++ Some key ∷ []) y ≡ Some k → x ≡ y
        apart x y k e f =
            ⊎_elim
            (λ r. ⊎_elim (λ s. h.apart x y k r s) (λ s. absurd (old_key x k r (sym (same_Some key k s.1)))) (key_at-one_more keys (Some key) y k f))
            (λ r. ⊎_elim (λ s. absurd (old_key y k s (sym (same_Some key k r.1)))) (λ s. r.0 ∙ sym s.0) (key_at-one_more keys (Some key) y k f))
            (key_at-one_more keys (Some key) x k e)

        used : (k : ℕ) → IsSome (get new k) → (x : ℕ) × (key_at (keys ++ Some key ∷ []) x ≡ Some k)
        used k e = elim (cases_eq k key) [
          | inl q ↦ (length keys, key_at-last keys (Some key) ∙ ap Some (sym q))
          | inr ne ↦ let r = h.used k (sym (ap is_some (n.others k ne)) ∙ e) in (r.0, key_at-append keys (Some key) r.0 k r.1)
        ]

    view_with_new : map (entries_of new) (keys ++ Some key ∷ []) ≡ map (entries_of old) keys ++ Some [] ∷ []
    view_with_new =
        map-append (entries_of new) keys (Some key ∷ [])
        ∙ rw (n.empty, view-apart keys old new (λ x k e. n.others k (old_key x k e))) refl

  pub each_with_more : (mapped : Bool) (key : Option ℕ) → AddsMap mapped old new key → HasEachMap (keys ++ key ∷ []) new
  each_with_more mapped None a = each_with_none a.1
  each_with_more mapped (Some key) a = each_with_new key a.1

  pub view_with_more : (mapped : Bool) (key : Option ℕ) → AddsMap mapped old new key → map (entries_of new) (keys ++ key ∷ []) ≡ map (entries_of old) keys ++ new_entries mapped ∷ []
  view_with_more mapped None a = map-append (entries_of new) keys (None ∷ []) ∙ rw (a.0, a.1) refl
  view_with_more mapped (Some key) a = view_with_new key a.1 ∙ rw a.0 refl

-- ---- a node more among the directories

is_some-new_entries : (mapped : Bool) → is_some (new_entries mapped) ≡ mapped
is_some-new_entries true = refl
is_some-new_entries false = refl

entries_at-last : (directories : List (Option (List (List ℕ × ℕ)))) (e : Option (List (List ℕ × ℕ))) → entries_at (directories ++ e ∷ []) (length directories) ≡ e
entries_at-last [] e = refl
entries_at-last (first ∷ directories) e = entries_at-last directories e

entries_at-other : (directories : List (Option (List (List ℕ × ℕ)))) (e : Option (List (List ℕ × ℕ))) (f : ℕ) → f ≢ length directories → entries_at (directories ++ e ∷ []) f ≡ entries_at directories f
entries_at-other [] e zero ne = absurd (ne refl)
entries_at-other [] e (suc f) ne = refl
entries_at-other (first ∷ directories) e zero ne = refl
entries_at-other (first ∷ directories) e (suc f) ne = entries_at-other directories e f (λ q. ne (ap suc q))

entries_at-past : (directories : List (Option (List (List ℕ × ℕ)))) → entries_at directories (length directories) ≡ None
entries_at-past [] = refl
entries_at-past (first ∷ directories) = entries_at-past directories

module _ (directories : List (Option (List (List ℕ × ℕ)))) (mapped : Bool) where
  pub entry_in-more : (f : ℕ) (m : List ℕ) → entry_in (directories ++ new_entries mapped ∷ []) f m ≡ entry_in directories f m
  entry_in-more f m = elim (cases_eq f (length directories)) [
    | inl q ↦ rw (q, entries_at-last directories (new_entries mapped), entries_at-past directories) (nothing mapped)
    | inr ne ↦ rw (entries_at-other directories (new_entries mapped) f ne) refl
  ]
    where
      nothing : (b : Bool) → option_and_then (λ entries. lookup (is_name m) entries) (new_entries b) ≡ None
      nothing true = refl
      nothing false = refl

  pub has_map-more : (f : ℕ) → has_map (directories ++ new_entries mapped ∷ []) f ≡ (if f == length directories then mapped else has_map directories f)
  has_map-more f = elim (cases_eq f (length directories)) [
    | inl q ↦ rw (q, eq-eqb (length directories) (length directories) refl, entries_at-last directories (new_entries mapped)) (is_some-new_entries mapped)
    | inr ne ↦ rw (ne_eqb f (length directories) ne, entries_at-other directories (new_entries mapped) f ne) refl
  ]

  pub length-more : length (directories ++ new_entries mapped ∷ []) ≡ suc (length directories)
  length-more = omega (arith, length-append directories (new_entries mapped ∷ []))

pub added_node : (old mid : List (Option (List (List ℕ × ℕ)))) (d : ℕ) (n : List ℕ) (mapped : Bool)
    → SetsEntry old mid d n (Some (length old)) → AddsNode old (mid ++ new_entries mapped ∷ []) d n mapped
added_node old mid d n mapped s = record {
  entries = λ f m. entry_in-more mid mapped f m ∙ s.entries f m;
  maps = λ f. has_map-more mid mapped f ∙ rw (s.count, s.maps f) refl;
  count = length-more mid mapped ∙ ap suc s.count;
}

-- ---- the same in the steps that the code takes

abbrev Maps : Type 0
Maps = Slab (List (List ℕ × ℕ))

-- room for more leaves the maps
reserved : (old mid : Maps) → mid ≡ record old { capacity = mid.capacity } → SameMaps old mid
reserved old mid kept = record { entries = entries; maps = λ k. ap (λ maps. is_some (get maps k)) kept }
  where
    entries : (key : Option ℕ) → entries_of mid key ≡ entries_of old key
    entries None = refl
    entries (Some k) = ap (λ maps. get maps k) kept

module _ (keys more : List (Option ℕ)) (old mid new : Maps) (mapped : Bool) (key : Option ℕ)
    (h : HasEachMap keys old) (kept : mid ≡ record old { capacity = mid.capacity }) where
  mid_each : HasEachMap keys mid
  mid_each = same_each keys old mid h (reserved old mid kept)

  mid_view : map (entries_of mid) keys ≡ map (entries_of old) keys
  mid_view = same_view keys old mid h (reserved old mid kept)

  pub grown_each : AddsMap mapped mid new key → more ≡ keys ++ key ∷ [] → HasEachMap more new
  grown_each a grown = rw grown (each_with_more keys mid new mid_each mapped key a)

  pub grown_view : AddsMap mapped mid new key → more ≡ keys ++ key ∷ [] → map (entries_of new) more ≡ map (entries_of old) keys ++ new_entries mapped ∷ []
  grown_view a grown = rw (grown, ← mid_view) (view_with_more keys mid new mid_each mapped key a)

  module _ (put : Maps) (d dir_key x : ℕ) (n : List ℕ) (there : key_at keys d ≡ Some dir_key) (c : ChangesMap mid put dir_key n (Some x)) (a : AddsMap mapped put new key) (grown : more ≡ keys ++ key ∷ []) where
    put_each : HasEachMap keys put
    put_each = changed_each keys mid put mid_each d dir_key n (Some x) there c

    pub added_each : HasEachMap more new
    added_each = rw grown (each_with_more keys put new put_each mapped key a)

    pub added_view : x ≡ length keys → AddsNode (map (entries_of old) keys) (map (entries_of new) more) d n mapped
    added_view last =
        let same : length (map (entries_of mid) keys) ≡ x = length-view keys mid ∙ sym last in
        let set : SetsEntry (map (entries_of mid) keys) (map (entries_of put) keys) d n (Some (length (map (entries_of mid) keys))) =
        rw same (changed_entry keys mid put mid_each d dir_key n (Some x) there c) in
        rw (grown, view_with_more keys put new put_each mapped key a, ← mid_view) (added_node _ _ d n mapped set)
