use Rattle.std.proofs.Common.{rules, ◌≡◌}
use Rattle.tree_slab.proofs.Listed.{listed_or_not}
use Rattle.tree_slab.proofs.nodes.NodesNodeTable.names.Goals as goal

pub returns : goal.returns
returns c =
    let view : c.self.inside.inodes.items ≡ c.args.self.now = search rules in
    rw (← view) (listed_or_not c.self.inside.inodes.items c.self.inside.directories c.self.invariant c.args.dir c.names.result c.names.ensures.same c.names.ensures.sorted)
