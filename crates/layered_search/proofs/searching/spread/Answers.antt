use Rattle.layered_search.proofs.Layers.Spread.{edges_apart}
use Rattle.layered_search.proofs.searching.spread.Goals as goal

pub graph_nodes_of-requires-clause-apart : goal.graph_nodes_of-requires-clause-apart
graph_nodes_of-requires-clause-apart c =
    edges_apart c.args.bounds c.args.configurations.now c.args.choices.now c.args.places.now c.in_ok-edges.next.items
    c.in_ok-edges.edges.items c.requires.many c.requires.fit c.requires.apart c.in_ok-edges.ensures

pub returns : goal.returns
returns c = (
  c.in_ok-edges.edges.items,
  (
    c.in_ok-graph_nodes.graph_nodes,
    (
      c.in_ok-push_layer.ensures.ok,
      (
        c.in_ok-edges.ensures,
        record { many = c.in_ok-graph_nodes.ensures.many; each = c.in_ok-graph_nodes.ensures.each },
      ),
    ),
  ),
)
