use Rattle.std.proofs.Common.{None}
use Rattle.tree_slab.proofs.Remembered.{true-set}
use Rattle.tree_slab.proofs.cached.CachedDirectories.unlink.Goals as goal

pub invariant_of-self : goal.invariant_of-self
invariant_of-self c =
    true-set c.self.inside.cache c.forget.new.self c.self.inside.maps c.args.dir c.args.name.now c.unlink.new.self None c.forget.ensures c.unlink.ensures c.self.invariant
