-- The rows of a tree in order.
use Rattle.std.proofs.Common.{◌≡◌, ℕ, List, Ordering, Less, Equal, Greater, refl, ap, ◌∙◌, eqb-true}
use Rattle.std.specs.Cmp.{IsTotalOrder, unsigned_ties}
use Rattle.std.specs.Cmp.Lexicographic.{slice_cmp, nat_list_cmp_total, bytes_decides, texts_ties}
use Rattle.std.specs.List.Sorted.{IsSorted, IsPermutation}
use Rattle.std.specs.Ordering.{nat_cmp, is_eq, ordering_then}
use Rattle.std.proofs.lemmas.Cmp.{nat_cmp_total, on_total, then_total}
use Rattle.tree_model.specs.declared.inode.Inode.{Inode}
use Rattle.tree_model.specs.declared.row.Row.{Row}
use Rattle.tree_model.specs.Rows.{rows_of, row_order, rows_in_order}
use Rattle.tree_model.specs.Sorted.{sorted_by}
use Rattle.tree_model.proofs.Sorting.{sorted_by-only}

pub row_order-total : IsTotalOrder row_order
row_order-total =
    then_total (on_total (λ (r : Row). r.parent) nat_cmp_total)
    (then_total (on_total (λ (r : Row). r.name) nat_list_cmp_total) (on_total (λ (r : Row). r.child) nat_cmp_total))

then-Equal : (o p : Ordering) → ordering_then o p ≡ Equal → (o ≡ Equal) × (p ≡ Equal)
then-Equal Less p e = cc (e)
then-Equal Equal p e = (refl, e)
then-Equal Greater p e = cc (e)

nat_cmp-Equal : (x y : ℕ) → nat_cmp x y ≡ Equal → x ≡ y
nat_cmp-Equal x y e = eqb-true x y (unsigned_ties x y ∙ ap is_eq e)

-- rows that tie are one
pub row_order-Equal : (r q : Row) → row_order r q ≡ Equal → r ≡ q
row_order-Equal r q e =
    let first = then-Equal (nat_cmp r.parent q.parent) (ordering_then (slice_cmp nat_cmp r.name q.name) (nat_cmp r.child q.child)) e in
    let second = then-Equal (slice_cmp nat_cmp r.name q.name) (nat_cmp r.child q.child) first.1 in
    let parent = nat_cmp-Equal r.parent q.parent first.0 in
    let name = (bytes_decides r.name q.name).0 (texts_ties r.name q.name ∙ ap is_eq second.0) in
    let child = nat_cmp-Equal r.child q.child second.1 in
    λ i. record { parent = parent i; name = name i; child = child i }

-- rows in order that are those of the nodes are the ones that rows_in_order gives
pub rows_in_order-only : (nodes : List Inode) (rows sorted : List Row) → rows ≡ rows_of nodes → IsPermutation rows sorted → IsSorted row_order sorted
    → sorted ≡ rows_in_order nodes
rows_in_order-only nodes rows sorted e moved up =
    sorted_by-only row_order row_order-total row_order-Equal rows sorted moved up ∙ ap (sorted_by row_order) e
