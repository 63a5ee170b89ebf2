use Rattle.std.proofs.Common.{rules, ◌≡◌, true, false, Some, None}
use Rattle.tree_model.specs.State.{child, is_dir, is_gone, is_within}
use Rattle.tree_slab.proofs.Index.{moved_index}
use Rattle.tree_slab.proofs.nodes.NodesNodeTable.move_to.Goals as goal

pub invariant_of-self-2 : goal.invariant_of-self-2
invariant_of-self-2 c =
    let dir : is_dir c.self.inside.inodes.items c.args.to.parent ≡ true = search rules in
    let stays : is_gone c.self.inside.inodes.items c.args.to.parent ≡ false = search rules in
    let there : child c.self.inside.inodes.items c.args.from.now.parent c.args.from.now.name ≡ Some c.args.moved = search rules in
    let free : child c.self.inside.inodes.items c.args.to.parent c.args.to.name ≡ None = search rules in
    let out : is_within c.self.inside.inodes.items c.args.moved c.args.to.parent ≡ false = search rules in
    rw c.set_place.ensures (moved_index c.self.inside.inodes.items c.self.inside.directories c.self.invariant c.args.from.now.parent c.args.from.now.name c.args.to.parent c.args.to.name c.args.moved dir stays there out c.link.new.self c.unlink.new.self free (rw c.lend.ensures at c.in_ok-link.ensures.ok) (rw c.lend-2.ensures at c.unlink.ensures))
