-- The maps by the nodes that have their keys: what a look-up finds, and what a change of a map or of the keys leaves.
use Rattle.std.proofs.Common.{◌≡◌, ◌≢◌, ℕ, zero, suc, List, [], ◌∷◌, length, map, Option, Some, None, is_some, refl, ap, sym, ◌∙◌, inl, inr, eq-eqb}
use Rattle.std.proofs.lemmas.Bool.{cases_eq, ne_eqb}
use Rattle.std.proofs.lemmas.Option.{none-some, same_Some}
use Rattle.slab.specs.Slab.{Slab, get}
use Rattle.tree_slab.specs.Directories.{entries_at, has_map, entry_in, with_entry, SetsEntry, key_at, entries_of, HasEachMap, ChangesMap, SameMaps}

-- ---- what a look-up finds

pub entries_at-view : (keys : List (Option ℕ)) (maps : Slab (List (List ℕ × ℕ))) (x : ℕ) → entries_at (map (entries_of maps) keys) x ≡ entries_of maps (key_at keys x)
entries_at-view [] maps x = refl
entries_at-view (key ∷ keys) maps zero = refl
entries_at-view (key ∷ keys) maps (suc x) = entries_at-view keys maps x

pub length-view : (keys : List (Option ℕ)) (maps : Slab (List (List ℕ × ℕ))) → length (map (entries_of maps) keys) ≡ length keys
length-view [] maps = refl
length-view (key ∷ keys) maps = ap suc (length-view keys maps)

view-same : (keys : List (Option ℕ)) (old new : Slab (List (List ℕ × ℕ))) → ((key : Option ℕ) → entries_of new key ≡ entries_of old key) → map (entries_of new) keys ≡ map (entries_of old) keys
view-same [] old new same = refl
view-same (key ∷ keys) old new same = rw (same key, view-same keys old new same) refl

-- ---- one entry of one map changes

module _ (keys : List (Option ℕ)) (old new : Slab (List (List ℕ × ℕ))) (h : HasEachMap keys old) where
  each_stays : ((k : ℕ) → is_some (get new k) ≡ is_some (get old k)) → HasEachMap keys new
  each_stays same = record {
    there = λ x key e. same key ∙ h.there x key e;
    apart = h.apart;
    used = λ key e. h.used key (sym (same key) ∙ e);
  }

  pub same_each : SameMaps old new → HasEachMap keys new
  same_each s = each_stays s.maps

  pub same_view : SameMaps old new → map (entries_of new) keys ≡ map (entries_of old) keys
  same_view s = view-same keys old new s.entries

  module _ (d key : ℕ) (n : List ℕ) (x : Option ℕ) (there : key_at keys d ≡ Some key) (c : ChangesMap old new key n x) where
    pub changed_each : HasEachMap keys new
    changed_each = each_stays c.maps

    entries_changed : (f : ℕ) (m : List ℕ) (o : Option ℕ) → key_at keys f ≡ o → entry_in (map (entries_of new) keys) f m ≡ with_entry (entry_in (map (entries_of old) keys)) d n x f m
    entries_changed f m None e =
        let ne : f ≢ d = λ q. none-some key (sym e ∙ ap (key_at keys) q ∙ there) in
        rw (entries_at-view keys new f, entries_at-view keys old f, e, ne_eqb f d ne) refl
    entries_changed f m (Some k) e = elim (cases_eq f d) [
      | inl q ↦
          let same : k ≡ key = same_Some k key (sym e ∙ ap (key_at keys) q ∙ there) in
          rw (entries_at-view keys new f, entries_at-view keys old f, e, same, q, eq-eqb d d refl) (c.entries key m ∙ rw (eq-eqb key key refl) refl)
      | inr ne ↦
          let apart : k ≢ key = λ q. ne (h.apart f d key (e ∙ ap Some q) there) in
          rw (entries_at-view keys new f, entries_at-view keys old f, e, ne_eqb f d ne) (c.entries k m ∙ rw (ne_eqb k key apart) refl)
    ]

    maps_kept : (f : ℕ) (o : Option ℕ) → key_at keys f ≡ o → has_map (map (entries_of new) keys) f ≡ has_map (map (entries_of old) keys) f
    maps_kept f None e = rw (entries_at-view keys new f, entries_at-view keys old f, e) refl
    maps_kept f (Some k) e = rw (entries_at-view keys new f, entries_at-view keys old f, e) (c.maps k)

    pub changed_entry : SetsEntry (map (entries_of old) keys) (map (entries_of new) keys) d n x
    changed_entry = record {
      entries = λ f m. entries_changed f m (key_at keys f) refl;
      maps = λ f. maps_kept f (key_at keys f) refl;
      count = length-view keys new ∙ sym (length-view keys old);
    }
