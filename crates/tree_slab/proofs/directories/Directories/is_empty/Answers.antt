use Rattle.std.proofs.Common.{rules, ◌≡◌, Some}
use Rattle.tree_slab.specs.Directories.{entries_at}
use Rattle.tree_slab.proofs.NameOrder.{empty_by_names}
use Rattle.tree_slab.proofs.directories.Directories.is_empty.Goals as goal

pub returns-in-Some : goal.returns-in-Some
returns-in-Some c =
    let at : entries_at c.args.self.now c.args.dir ≡ Some c.in-Some.map.now = search rules in
    empty_by_names c.args.self.now c.args.dir c.in-Some.map.now c.is_empty.result at c.is_empty.ensures
