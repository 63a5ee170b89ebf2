use Rattle.std.proofs.Common.{rules}
use Rattle.tree_slab.proofs.Keys.{changed_entry}
use Rattle.tree_slab.proofs.directories.Directories.link.Goals as goal

pub returns-clause-ok : goal.returns-clause-ok
returns-clause-ok c = search (rules, changed_entry)
