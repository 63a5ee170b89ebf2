-- The rows of a tree are its entries.
use Rattle.std.proofs.Common.{◌≡◌, ℕ, zero, suc, ◌+◌, List, [], ◌∷◌, Option, Some, None, refl, sym, ap, ◌∙◌, subst, arith, add-zero}
use Rattle.std.specs.List.{Contains, cons_option}
use Rattle.std.proofs.lemmas.List.Sorted.{IsPermutation-sym, Contains-permutation}
use Rattle.std.proofs.lemmas.Option.{none-some}
use Rattle.tree_model.specs.declared.inode.Inode.{Inode}
use Rattle.tree_model.specs.declared.inode.Place.{Place}
use Rattle.tree_model.specs.declared.row.Row.{Row}
use Rattle.tree_model.specs.Rows.{row_at, rows_from, rows_of, row_order, rows_in_order}
use Rattle.tree_model.specs.RowLaws.{RowsAreInOrder, RowsAreOneList, RowsArePlaces, EntriesHaveOneRow}
use Rattle.tree_model.specs.State.{place_at}
use Rattle.tree_model.proofs.Children.{entry}
use Rattle.tree_model.proofs.RowOrder.{row_order-total, rows_in_order-only}
use Rattle.tree_model.proofs.Sorting.{IsSorted-sorted_by, IsPermutation-sorted_by}

pub rows_are_in_order : RowsAreInOrder
rows_are_in_order nodes = (IsSorted-sorted_by row_order row_order-total (rows_of nodes), IsPermutation-sorted_by row_order row_order-total (rows_of nodes))

pub rows_are_one_list : RowsAreOneList
rows_are_one_list nodes rows sorted moved = rows_in_order-only nodes (rows_of nodes) rows refl moved sorted

-- a row of nodes that are counted from x is of the place of one of them
place_of_row : (x : ℕ) (nodes : List Inode) (row : Row) → Contains (rows_from x nodes) row
    → (i : ℕ) × ((row.child ≡ x + i) × (place_at nodes i ≡ Some (entry row.parent row.name)))
place_of_row x [] row c = absurd (omega (arith, c.1))
place_of_row x (inode ∷ nodes) row c = by inode.place refl c (λ d. place_of_row (suc x) nodes row d)
  where
    later : (i : ℕ) × ((row.child ≡ suc x + i) × (place_at nodes i ≡ Some (entry row.parent row.name)))
        → (i : ℕ) × ((row.child ≡ x + i) × (place_at (inode ∷ nodes) i ≡ Some (entry row.parent row.name)))
    later r = let q : row.child ≡ x + suc r.0 = omega (arith, r.1.0) in (suc r.0, (q, r.1.1))

    by : (o : Option Place) → inode.place ≡ o → Contains (cons_option (row_at x o) (rows_from (suc x) nodes)) row
        → (Contains (rows_from (suc x) nodes) row → (i : ℕ) × ((row.child ≡ suc x + i) × (place_at nodes i ≡ Some (entry row.parent row.name))))
        → (i : ℕ) × ((row.child ≡ x + i) × (place_at (inode ∷ nodes) i ≡ Some (entry row.parent row.name)))
    by None e c further = later (further c)
    by (Some place) e (zero, low, same) further =
        (0, (ap (λ r. r.child) (sym same) ∙ sym (add-zero x), e ∙ ap (λ (r : Row). Some (entry r.parent r.name)) same))
    by (Some place) e (suc k, low, same) further = later (further (k, omega arith, same))

-- and each place has its row
row_of_place : (x : ℕ) (nodes : List Inode) (row : Row) (i : ℕ) → row.child ≡ x + i → place_at nodes i ≡ Some (entry row.parent row.name)
    → Contains (rows_from x nodes) row
row_of_place x [] row i n e = absurd (none-some (entry row.parent row.name) e)
row_of_place x (inode ∷ nodes) row zero n e =
    let own : row.child ≡ x = n ∙ add-zero x in
    subst (λ o. Contains (cons_option (row_at x o) (rows_from (suc x) nodes)) row) (sym e)
    (0, omega arith, λ i. record { parent = row.parent; name = row.name; child = sym own i })
row_of_place x (inode ∷ nodes) row (suc i) n e = by (row_at x inode.place) (row_of_place (suc x) nodes row i (omega (arith, n)) e)
  where
    by : (o : Option Row) → Contains (rows_from (suc x) nodes) row → Contains (cons_option o (rows_from (suc x) nodes)) row
    by None c = c
    by (Some r) c = (suc c.0, omega (arith, c.1), c.2)

pub rows_are_places : RowsArePlaces
rows_are_places nodes row =
    let moved = IsPermutation-sorted_by row_order row_order-total (rows_of nodes) in (
      (λ c.
          let found = place_of_row 0 nodes row (Contains-permutation (rows_in_order nodes) (rows_of nodes) row (IsPermutation-sym _ _ moved) c) in
          let same : row.child ≡ found.0 = omega (arith, found.1.0) in
          ap (place_at nodes) same ∙ found.1.1),
      (λ e. Contains-permutation (rows_of nodes) (rows_in_order nodes) row moved (row_of_place 0 nodes row row.child (omega arith) e)),
    )

pub entries_have_one_row : EntriesHaveOneRow
entries_have_one_row nodes t r q c d parent name =
    let r_there = (rows_are_places nodes r).0 c in
    let q_there = (rows_are_places nodes q).0 d in
    let child : r.child ≡ q.child = t.apart r.child q.child (entry q.parent q.name) (r_there ∙ (λ i. Some (entry (parent i) (name i)))) q_there in
    λ i. record { parent = parent i; name = name i; child = child i }
