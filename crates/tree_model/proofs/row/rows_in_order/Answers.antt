use Rattle.tree_model.proofs.RowOrder.{rows_in_order-only}
use Rattle.tree_model.proofs.row.rows_in_order.Goals as goal

pub returns : goal.returns
returns c = rows_in_order-only c.args.nodes.now _ _ c.in_ok-rows.ensures c.sort_unstable.ensures.permutation c.sort_unstable.ensures.sorted
