use Rattle.tree_slab.proofs.Remembered.{true-looked}
use Rattle.tree_slab.proofs.cached.CachedDirectories.look.Goals as goal

pub invariant_of-self : goal.invariant_of-self
invariant_of-self c =
    true-looked c.self.inside.cache c.look.new.self c.self.inside.maps c.args.dir c.args.name.now c.look.ensures.renewed c.self.invariant
