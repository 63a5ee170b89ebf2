-- What a change of one map in the slab leaves.
use Rattle.std.proofs.Common.{◌≡◌, ℕ, ◌<◌, cond, List, get_or, set, length, Option, Some, None, is_some, IsSome, count_by, refl, ap, inl, inr, eq-eqb, arith}
use Rattle.std.proofs.lemmas.List.{get_or_past}
use Rattle.std.proofs.lemmas.Bool.{cases_eq, ne_eqb}
use Rattle.std.proofs.lemmas.List.Sums.{sum_by-set}
use Rattle.slab.specs.Slab.{Slab, get, with_value, Updates}
use Rattle.slab.proofs.SlabLemmas.{Updates-with_value}
use Rattle.tree_slab.specs.Directories.{found_in, with_entry, ChangesEntry, ChangesMap}

count_by-set_some : {T : Type 0} (slots : List (Option T)) (key : ℕ) (was is : T) → get_or slots key None ≡ Some was → count_by is_some (set slots key (Some is)) ≡ count_by is_some slots
count_by-set_some slots key was is there =
    let within : key < length slots = grind (arith, get_or_past) in
    let both = sum_by-set (λ slot. cond (is_some slot) 1 0) slots key (Some is) None within in
    omega (arith, rw there at both)

-- one entry of the map of that key leads elsewhere
pub map_changed : (maps : Slab (List (List ℕ × ℕ))) (key : ℕ) (was is : List (List ℕ × ℕ)) (n : List ℕ) (x : Option ℕ) → get maps key ≡ Some was
    → ChangesEntry was is n x
    → ChangesMap maps (with_value maps key is) key n x
map_changed maps key was is n x there updates = record { entries = entries; maps = kept; room = λ h. rw (count_by-set_some maps.slots key was is there) h }
  where
    present : IsSome (get maps key)
    present = rw there refl

    u : Updates maps (with_value maps key is) key (Some is)
    u = Updates-with_value maps key is present

    entries : (k : ℕ) (m : List ℕ) → found_in (with_value maps key is) k m ≡ with_entry (found_in maps) key n x k m
    entries k m = elim (cases_eq k key) [
      | inl e ↦ rw (e, u.changed, eq-eqb key key refl, there) (updates m)
      | inr ne ↦ rw (u.others k ne, ne_eqb k key ne) refl
    ]

    kept : (k : ℕ) → is_some (get (with_value maps key is) k) ≡ is_some (get maps k)
    kept k = elim (cases_eq k key) [
      | inl e ↦ rw (e, u.changed, there) refl
      | inr ne ↦ ap is_some (u.others k ne)
    ]
