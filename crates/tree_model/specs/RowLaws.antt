-- What holds of the rows of a tree: statements of laws.
use Rattle.std.specs.Prelude.{◌≡◌, ◌↔◌, List, Some}
use Rattle.std.specs.List.{Contains}
use Rattle.std.specs.List.Sorted.{IsSorted, IsPermutation}
use Rattle.tree_model.specs.declared.inode.Inode.{Inode}
use Rattle.tree_model.specs.declared.row.Row.{Row}
use Rattle.tree_model.specs.Rows.{rows_of, row_order, rows_in_order}
use Rattle.tree_model.specs.State.{place_at}
use Rattle.tree_model.specs.Trees.{IsTree}

-- rows_in_order gives the rows of the nodes in order
abbrev pub RowsAreInOrder : Type 0
RowsAreInOrder = (nodes : List Inode)
    → IsSorted row_order (rows_in_order nodes) × IsPermutation (rows_of nodes) (rows_in_order nodes)

-- and no other list is that
abbrev pub RowsAreOneList : Type 0
RowsAreOneList = (nodes : List Inode) (rows : List Row) → IsSorted row_order rows
    → IsPermutation (rows_of nodes) rows → rows ≡ rows_in_order nodes

-- there is a row exactly where a node stands
abbrev pub RowsArePlaces : Type 0
RowsArePlaces = (nodes : List Inode) (row : Row)
    → Contains (rows_in_order nodes) row
    ↔ (place_at nodes row.child ≡ Some (record { parent = row.parent; name = row.name }))

-- in a tree an entry has one row
abbrev pub EntriesHaveOneRow : Type 0
EntriesHaveOneRow = (nodes : List Inode) → IsTree nodes → (r q : Row) → Contains (rows_in_order nodes) r
    → Contains (rows_in_order nodes) q
    → r.parent ≡ q.parent → r.name ≡ q.name → r ≡ q
