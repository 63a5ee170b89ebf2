use Rattle.std.proofs.Common.{rules, ◌≡◌, true, false, Some}
use Rattle.tree_model.specs.State.{child, is_dir, is_within}
use Rattle.tree_slab.proofs.Index.{present, present_after, exchanged_index}
use Rattle.tree_slab.proofs.nodes.NodesNodeTable.exchange.Goals as goal

pub relink-requires : goal.relink-requires
relink-requires c =
    let other : child c.self.inside.inodes.items c.args.to.parent c.args.to.name ≡ Some c.args.there = search rules in
    rw c.lend.ensures (present c.self.inside.inodes.items c.self.inside.directories c.self.invariant c.args.to.parent c.args.to.name c.args.there other)

pub relink-requires-2 : goal.relink-requires-2
relink-requires-2 c =
    let there : child c.self.inside.inodes.items c.args.from.parent c.args.from.name ≡ Some c.args.moved = search rules in
    rw c.lend-2.ensures (present_after c.self.inside.inodes.items c.self.inside.directories c.self.invariant c.relink.new.self c.args.to.parent c.args.to.name c.args.moved c.args.from.parent c.args.from.name c.args.moved (rw c.lend.ensures at c.relink.ensures) there)

pub invariant_of-self : goal.invariant_of-self
invariant_of-self c =
    let dir : is_dir c.self.inside.inodes.items c.args.from.parent ≡ true = search rules in
    let to_dir : is_dir c.self.inside.inodes.items c.args.to.parent ≡ true = search rules in
    let there : child c.self.inside.inodes.items c.args.from.parent c.args.from.name ≡ Some c.args.moved = search rules in
    let other : child c.self.inside.inodes.items c.args.to.parent c.args.to.name ≡ Some c.args.there = search rules in
    let out : is_within c.self.inside.inodes.items c.args.moved c.args.to.parent ≡ false = search rules in
    let out2 : is_within c.self.inside.inodes.items c.args.there c.args.from.parent ≡ false = search rules in
    rw (c.set_place-2.ensures, c.set_place.ensures) (exchanged_index c.self.inside.inodes.items c.self.inside.directories c.self.invariant c.relink.new.self c.relink-2.new.self c.args.from.parent c.args.from.name c.args.to.parent c.args.to.name c.args.moved c.args.there dir to_dir there other c.requires.apart out out2 (rw c.lend.ensures at c.relink.ensures) (rw c.lend-2.ensures at c.relink-2.ensures))
