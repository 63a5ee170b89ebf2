use Rattle.std.proofs.Common.{rules, ◌≡◌, refl}
use Rattle.tree_list.proofs.Built.{new_state}
use Rattle.tree_list.specs.Build.{top_alone, with_nodes}
use Rattle.tree_slab.proofs.nodes.Nodes.new.Goals as goal

pub from_vec-requires : goal.from_vec-requires
from_vec-requires c =
    let items : c.push.new.self.items ≡ top_alone = search rules in
    record { tree = rw items (new_state (with_nodes top_alone) refl).tree; new = c.requires }
