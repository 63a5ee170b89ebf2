use Rattle.std.proofs.Common.{rules}
use Rattle.tree_slab.proofs.Maps.{map_changed}
use Rattle.tree_slab.proofs.directories.set_in.Goals as goal

pub returns-in-Some : goal.returns-in-Some
returns-in-Some c = map_changed _ _ c.in-Some.map.now _ _ _ (search rules) c.set.ensures
