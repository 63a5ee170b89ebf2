use Rattle.tree_slab.proofs.Remembered.{true-linked}
use Rattle.tree_slab.proofs.cached.CachedDirectories.link.Goals as goal

pub invariant_of-self : goal.invariant_of-self
invariant_of-self c =
    true-linked c.self.inside.cache c.forget.new.self c.self.inside.maps c.args.dir c.args.name.now c.link.new.self c.args.x c.link.result c.forget.ensures c.link.ensures.ok c.link.ensures.err c.self.invariant
