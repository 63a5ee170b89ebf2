use Rattle.root_ops.proofs.Quiet.WhatIsMeant.{operations_keep_trees, operations_keep_nodes, errors_change_nothing}
use Rattle.root_ops.proofs.quiet_laws.operations_keep_trees.Goals as goal

pub returns : goal.returns
returns c = record { trees = operations_keep_trees; nodes = operations_keep_nodes; errors = errors_change_nothing }
