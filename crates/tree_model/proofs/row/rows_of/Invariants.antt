use Rattle.std.proofs.Common.{◌≡◌, ◌++◌, drop}
use Rattle.tree_model.specs.Rows.{rows_from, rows_of}
use Rattle.tree_model.proofs.row.rows_of.Given as goal

-- the rows so far and those of the nodes that are left make the whole
abbrev pub invariant-loop-x : goal.invariant-loop-x
invariant-loop-x l = l.rows.items ++ rows_from l.x (drop l.x l.nodes) ≡ rows_of l.nodes
