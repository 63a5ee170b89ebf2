use Rattle.tree_slab.proofs.Remembered.{true-added}
use Rattle.tree_slab.proofs.cached.CachedDirectories.add.Goals as goal

pub invariant_of-self : goal.invariant_of-self
invariant_of-self c =
    true-added c.self.inside.cache c.forget.new.self c.self.inside.maps c.args.dir c.args.name.now c.add.new.self c.args.mapped c.add.result c.forget.ensures c.add.ensures.ok c.add.ensures.err c.self.invariant
