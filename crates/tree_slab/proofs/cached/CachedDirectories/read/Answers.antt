use Rattle.std.proofs.Common.{rules, ◌≡◌}
use Rattle.tree_slab.specs.Directories.{entry_in}
use Rattle.tree_slab.proofs.Remembered.{true-read}
use Rattle.tree_slab.proofs.cached.CachedDirectories.read.Goals as goal

pub invariant_of-self : goal.invariant_of-self
invariant_of-self c =
    let there : entry_in c.self.inside.maps c.args.dir c.args.name.now ≡ c.find-there.result = search rules in
    true-read c.self.inside.cache c.note.new.self c.self.inside.maps c.args.dir c.args.name.now c.find-there.result c.note.result c.note.ensures.ok c.note.ensures.err there c.self.invariant
