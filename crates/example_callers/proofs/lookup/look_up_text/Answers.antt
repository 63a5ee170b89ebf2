use Rattle.step_resolver.specs.Driver.{node_of}
use Rattle.example_callers.proofs.Rooted.{read_as}
use Rattle.example_callers.proofs.lookup.look_up_text.Goals as goal

pub returns : goal.returns
returns g c =
    let s = g.T.Tree.state c.args.tree.now in
    read_as s.nodes (node_of s c.args.root.owner.actor c.args.root.handle) c.args.text.now c.args.flags c.in_ok-path.path c.look_up.result
    c.in_ok-path.ensures c.look_up.ensures.means
