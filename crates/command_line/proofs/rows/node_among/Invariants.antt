use Rattle.std.proofs.Common.{◌≡◌, suc, drop}
use Rattle.serde_json.specs.View.{items_view}
use Rattle.command_line.specs.Rows.{node_among}
use Rattle.command_line.proofs.rows.node_among.Given as goal

-- it is the first of what is left
abbrev pub invariant-loop-at : goal.invariant-loop-at
invariant-loop-at l = node_among l.path (suc l.at) (items_view (drop l.at l.entries)) ≡ node_among l.path 1 (items_view l.entries)
