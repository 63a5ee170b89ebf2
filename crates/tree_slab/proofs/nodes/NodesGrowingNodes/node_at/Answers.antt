use Rattle.std.proofs.Common.{rules, ◌≡◌, ◌∙◌, sym}
use Rattle.tree_slab.proofs.Index.{child-index}
use Rattle.tree_slab.proofs.nodes.NodesGrowingNodes.node_at.Goals as goal

pub returns : goal.returns
returns c =
    let view : c.self.inside.inodes.items ≡ c.args.self.now = search rules in
    rw (← view) (c.mapped.ensures ∙ sym (child-index c.self.inside.inodes.items c.self.inside.directories c.self.invariant c.args.parent c.args.name.now))
