use Rattle.std.proofs.Common.{◌≡◌, take}
use Rattle.std.specs.Prelude.{map, slice_get}
use Rattle.tree_model.specs.Steps.{node_held}
use Rattle.local_states.proofs.handle_tables.nodes_of.Given as goal

abbrev pub invariant-loop-handle : goal.invariant-loop-handle
invariant-loop-handle l = l.nodes.items ≡ map (λ handle. node_held l.actor (slice_get l.opened handle)) (take l.handle-index l.handles)
