-- Rows of parts, one for each actor.
use Rattle.std.specs.Prelude.{◌≡◌, ◌<◌, ℕ, ◌+◌, zero, suc, List, [], ◌∷◌, ◌++◌, length, Some, slice_get, slice_set, refl}
use Rattle.std.proofs.Common.{sym, ap, ◌∙◌, subst, ⊎_elim, length-set, arith, get_or}
use Rattle.std.proofs.lemmas.Option.{same_Some, none-some, slice_get_within, slice_get_read}
use Rattle.std.proofs.lemmas.List.{length-append}
use Rattle.tree_model.specs.declared.inode.Inode.{Inode}
use Rattle.layered_search.proofs.Places.{within_some, get_push, get_set}
use Rattle.race_core.specs.Worlds.{WorldView}
use Rattle.local_states.specs.HandleTables.{PartView}
use Rattle.local_states.specs.Keys.{PartsView, AreApartParts, AreInterned, ComponentsView, AreRows, HasMore, AreMoreParts, IsPartIn, IsPartAt}
use Rattle.local_states.proofs.Parted.Parts.{more_itself}

pub rows_push : (parts new : List PartsView) (row : PartsView) (n : ℕ) → new ≡ parts ++ row ∷ [] → AreRows parts n
    → row.actor ≡ n → AreRows new (n + 1)
rows_push parts new row n e rows is = record {
  many = let m = ap length e ∙ length-append parts (row ∷ []) in omega (arith, m, rows.many);
  own = λ i one q. ⊎_elim (λ h. rows.own i one h)
      (λ h. ap (λ (r : PartsView). r.actor) h.1 ∙ (is ∙ (sym rows.many ∙ sym h.0)))
      (get_push parts row i one (subst (λ (ps : List PartsView). slice_get ps i ≡ Some one) e q));
}

-- rows that have grown are still the actors'
pub rows_more : (old new : List PartsView) (n : ℕ) → AreMoreParts old new → AreRows old n → AreRows new n
rows_more old new n more rows = record {
  many = more.many ∙ rows.many;
  own = λ i row e.
      let lt : i < length new = slice_get_within new i row e in
      let was = within_some old i (omega (arith, lt, more.many)) in
      let is = more.each i was.0 was.1 in
      ap (λ (r : PartsView). r.actor) (same_Some row is.0 (sym e ∙ is.1.0)) ∙ (is.1.1.actor ∙ rows.own i was.0 was.1);
}

-- one row has more, and the others stay
set_more : (rows : List PartsView) (i : ℕ) (old new : PartsView) → slice_get rows i ≡ Some old → HasMore old new
    → (k : ℕ) (row : PartsView) → slice_get rows k ≡ Some row
    → (more : PartsView) × ((slice_get (slice_set rows i new) k ≡ Some more) × HasMore row more)
set_more [] i old new e has k row q = absurd (none-some old e)
set_more (r ∷ rs) zero old new e has zero row q =
    (new, (refl, subst (λ (o : PartsView). HasMore o new) (same_Some old row (sym e ∙ q)) has))
set_more (r ∷ rs) zero old new e has (suc k) row q = (row, (q, more_itself row))
set_more (r ∷ rs) (suc i) old new e has zero row q = (row, (q, more_itself row))
set_more (r ∷ rs) (suc i) old new e has (suc k) row q = set_more rs i old new e has k row q

pub row_put : (rows : List PartsView) (i : ℕ) (row new : PartsView) → i < length rows → row ≡ get_or rows i row
    → HasMore row new
    → AreMoreParts rows (slice_set rows i new)
row_put rows i row new lt e has = record {
  many = length-set rows i new;
  each = set_more rows i row new (slice_get_read rows (length rows) i row refl lt e) has;
}

-- the part that the actor of that number has in the world of that key
pub part_by : (c : ComponentsView) (v : WorldView) (i at : ℕ) (row : PartsView) → IsPartAt c v i at
    → slice_get c.parts i ≡ Some row → IsPartIn row v at
part_by c v i at row is e = subst (λ (r : PartsView). IsPartIn r v at) (same_Some is.row row (sym is.there ∙ e)) is.is

-- ---- no two parts of an actor are the same

-- so it is with each row
abbrev pub AreApartRows : List PartsView → Type 0
AreApartRows rows = (i : ℕ) (row : PartsView) → slice_get rows i ≡ Some row → AreApartParts row

pub apart_push : (parts new : List PartsView) (row : PartsView) → new ≡ parts ++ row ∷ [] → AreApartRows parts
    → row.parts ≡ [] → AreApartRows new
apart_push parts new row e apart none i one q = ⊎_elim (λ h. apart i one h)
    (λ h k l v w here there same. absurd
    (none-some here.part
    (ap (λ (ps : List PartView). slice_get ps k) (sym (ap (λ (r : PartsView). r.parts) h.1 ∙ none))
    ∙ here.there)))
    (get_push parts row i one (subst (λ (ps : List PartsView). slice_get ps i ≡ Some one) e q))

pub interned_put : (lists : List (List Inode)) (rows : List PartsView) (i : ℕ) (new : PartsView)
    → AreMoreParts rows (slice_set rows i new) → AreApartParts new → AreInterned lists rows
    → AreInterned lists (slice_set rows i new)
interned_put lists rows i new more apart met = record {
  rows = rows_more rows (slice_set rows i new) _ more (subst (λ n. AreRows rows n) (sym more.many) met.rows);
  lists_once = met.lists_once;
  parts_once = λ k row e. ⊎_elim (λ own. subst (λ (r : PartsView). AreApartParts r) (sym own.1) apart)
      (λ old. met.parts_once k row old.1) (get_set rows i k new row e);
}
