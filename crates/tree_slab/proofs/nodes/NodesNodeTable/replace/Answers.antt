use Rattle.std.proofs.Common.{rules, ◌≡◌, ◌&&◌, true, false, Some}
use Rattle.tree_model.specs.State.{child, is_dir, is_gone, is_within, has_entries}
use Rattle.tree_slab.proofs.Index.{present, replaced_index, replaced_empty}
use Rattle.tree_model.proofs.Changed.{replace_fault-none}
use Rattle.tree_slab.proofs.nodes.NodesNodeTable.replace.Goals as goal

pub relink-requires : goal.relink-requires
relink-requires c =
    let other : child c.self.inside.inodes.items c.args.to.parent c.args.to.name ≡ Some c.args.there = search rules in
    rw c.lend.ensures (present c.self.inside.inodes.items c.self.inside.directories c.self.invariant c.args.to.parent c.args.to.name c.args.there other)

pub give_back-requires : goal.give_back-requires
give_back-requires c =
    let other : child c.self.inside.inodes.items c.args.to.parent c.args.to.name ≡ Some c.args.there = search rules in
    let childless : (is_dir c.self.inside.inodes.items c.args.there && has_entries c.self.inside.inodes.items c.args.there) ≡ false = replace_fault-none c.self.inside.inodes.items c.args.moved c.args.there (search rules) in
    replaced_empty c.self.inside.inodes.items c.self.inside.directories c.self.invariant c.relink.new.self c.unlink.new.self c.args.from.now.parent c.args.from.now.name c.args.to.parent c.args.to.name c.args.moved c.args.there other childless (rw c.lend.ensures at c.relink.ensures) (rw c.lend-2.ensures at c.unlink.ensures)

pub invariant_of-self : goal.invariant_of-self
invariant_of-self c =
    let dir : is_dir c.self.inside.inodes.items c.args.to.parent ≡ true = search rules in
    let stays : is_gone c.self.inside.inodes.items c.args.to.parent ≡ false = search rules in
    let there : child c.self.inside.inodes.items c.args.from.now.parent c.args.from.now.name ≡ Some c.args.moved = search rules in
    let other : child c.self.inside.inodes.items c.args.to.parent c.args.to.name ≡ Some c.args.there = search rules in
    let out : is_within c.self.inside.inodes.items c.args.moved c.args.to.parent ≡ false = search rules in
    let childless : (is_dir c.self.inside.inodes.items c.args.there && has_entries c.self.inside.inodes.items c.args.there) ≡ false = replace_fault-none c.self.inside.inodes.items c.args.moved c.args.there (search rules) in
    rw (c.set_place-2.ensures, c.set_place.ensures) (replaced_index c.self.inside.inodes.items c.self.inside.directories c.self.invariant c.args.from.now.parent c.args.from.now.name c.args.to.parent c.args.to.name c.args.moved dir stays there out c.relink.new.self c.unlink.new.self c.give_back.new.self c.args.there other c.requires.apart childless (rw c.lend.ensures at c.relink.ensures) (rw c.lend-2.ensures at c.unlink.ensures) c.give_back.ensures)
