use Rattle.std.proofs.Common.{Some}
use Rattle.tree_slab.proofs.Remembered.{true-set}
use Rattle.tree_slab.proofs.cached.CachedDirectories.relink.Goals as goal

pub invariant_of-self : goal.invariant_of-self
invariant_of-self c =
    true-set c.self.inside.cache c.forget.new.self c.self.inside.maps c.args.dir c.args.name.now c.relink.new.self (Some c.args.x) c.forget.ensures c.relink.ensures c.self.invariant
