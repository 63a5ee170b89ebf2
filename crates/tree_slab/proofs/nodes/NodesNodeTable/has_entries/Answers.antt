use Rattle.std.proofs.Common.{rules, ◌≡◌}
use Rattle.tree_slab.proofs.Index.{has_entries-look}
use Rattle.tree_slab.proofs.nodes.NodesNodeTable.has_entries.Goals as goal

pub returns : goal.returns
returns c =
    let view : c.self.inside.inodes.items ≡ c.args.self.now = search rules in
    rw (← view) (has_entries-look c.self.inside.inodes.items c.self.inside.directories c.self.invariant c.args.dir c.is_empty.result c.is_empty.ensures)
