use Rattle.std.proofs.Common.{rules, ◌≡◌, ◌∙◌, sym}
use Rattle.tree_slab.proofs.Index.{child-index}
use Rattle.tree_slab.proofs.nodes.NodesNodeTable.find.Goals as goal

pub returns-clause-found : goal.returns-clause-found
returns-clause-found c =
    let view : c.self.inside.inodes.items ≡ c.args.self.now = search rules in
    rw (← view) (c.find.ensures.found ∙ sym (child-index c.self.inside.inodes.items c.self.inside.directories c.self.invariant c.args.dir c.args.name.now))
