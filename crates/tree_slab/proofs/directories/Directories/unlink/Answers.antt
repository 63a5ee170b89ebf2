use Rattle.std.proofs.Common.{rules}
use Rattle.tree_slab.proofs.Keys.{changed_entry}
use Rattle.tree_slab.proofs.directories.Directories.unlink.Goals as goal

pub returns-in-Some : goal.returns-in-Some
returns-in-Some c = search (rules, changed_entry)
