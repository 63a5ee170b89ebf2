-- The rows of a tree: for each node that stands somewhere its directory, its name there and its number.
use Rattle.std.specs.Prelude.{ℕ, suc, List, [], ◌∷◌, Option, Some, None}
use Rattle.std.specs.List.{cons_option}
use Rattle.std.specs.Ordering.{nat_cmp, ordering_then}
use Rattle.std.specs.declared.cmp.Ordering.{Ordering}
use Rattle.std.specs.Cmp.Lexicographic.{slice_cmp}
use Rattle.tree_model.specs.declared.inode.Inode.{Inode}
use Rattle.tree_model.specs.declared.inode.Place.{Place}
use Rattle.tree_model.specs.declared.row.Row.{Row}
use Rattle.tree_model.specs.Sorted.{sorted_by}

-- the row of the node x, if it stands somewhere
abbrev pub row_at : ℕ → Option Place → Option Row
row_at x None = None
row_at x (Some place) = Some (record { parent = place.parent; name = place.name; child = x })

-- the rows of nodes whose numbers count up from x
abbrev pub rows_from : ℕ → List Inode → List Row
rows_from x [] = []
rows_from x (inode ∷ nodes) = cons_option (row_at x inode.place) (rows_from (suc x) nodes)

abbrev pub rows_of : List Inode → List Row
rows_of nodes = rows_from 0 nodes

-- rows by the directory's number, then by the name's bytes; in a tree no two are alike in both
abbrev pub row_order : Row → Row → Ordering
row_order r q = ordering_then (nat_cmp r.parent q.parent)
    (ordering_then (slice_cmp nat_cmp r.name q.name) (nat_cmp r.child q.child))

-- the rows of a tree in order
abbrev pub rows_in_order : List Inode → List Row
rows_in_order nodes = sorted_by row_order (rows_of nodes)
