use Rattle.std.proofs.Common.{rules, ◌≡◌, ◌&&◌, false, Some}
use Rattle.tree_model.specs.State.{child, is_dir, has_entries}
use Rattle.tree_slab.proofs.Index.{removed_index, emptied}
use Rattle.tree_slab.proofs.nodes.NodesNodeTable.take_out.Goals as goal

pub give_back-requires : goal.give_back-requires
give_back-requires c =
    let childless : (is_dir c.self.inside.inodes.items c.args.x && has_entries c.self.inside.inodes.items c.args.x) ≡ false = search rules in
    emptied c.self.inside.inodes.items c.self.inside.directories c.self.invariant c.unlink.new.self c.args.dir c.args.name.now c.args.x childless c.unlink.ensures

pub invariant_of-self : goal.invariant_of-self
invariant_of-self c =
    let there : child c.self.inside.inodes.items c.args.dir c.args.name.now ≡ Some c.args.x = search rules in
    let childless : (is_dir c.self.inside.inodes.items c.args.x && has_entries c.self.inside.inodes.items c.args.x) ≡ false = search rules in
    rw c.set_place.ensures (removed_index c.self.inside.inodes.items c.self.inside.directories c.self.invariant c.unlink.new.self c.give_back.new.self c.args.dir c.args.name.now c.args.x there childless c.unlink.ensures c.give_back.ensures)
