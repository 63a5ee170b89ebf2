use Rattle.std.specs.Iterator.Adapters.{zip_first, zip_second}
use Rattle.std.specs.Slice.Iter.{iter_rest}
use Rattle.std.specs.Vec.Iter.{into_iter_items}
use Rattle.layered_search.proofs.Layers.Endings.{AreSpotted}
use Rattle.layered_search.proofs.frontier.ends.graph_nodes_of.Given as goal

abbrev pub invariant-loop-configuration : goal.invariant-loop-configuration
invariant-loop-configuration l =
    AreSpotted l.configurations l.end_classes l.fn.all.items (iter_rest (zip_first l.configuration-iterator))
    (into_iter_items (zip_second l.configuration-iterator)) l.graph_nodes.items
