use Rattle.std.proofs.Common.{rules, arith, ◌≡◌, ◌++◌, ◌∷◌, [], true, false, nat_le, ◌<◌, length, Some, None}
use Rattle.tree_model.specs.State.{child, is_dir, is_gone}
use Rattle.tree_model.specs.declared.tree.TheConstants.{NUMBERS_MAX}
use Rattle.std.proofs.lemmas.Bool.{lt-leb}
use Rattle.tree_slab.proofs.Index.{made_index}
use Rattle.tree_slab.proofs.nodes.NodesNodeTable.add.Goals as goal

pub invariant_of-self-2 : goal.invariant_of-self-2
invariant_of-self-2 c =
    let place = c.args.place in
    let dir : is_dir c.self.inside.inodes.items place.parent ≡ true = search rules in
    let stays : is_gone c.self.inside.inodes.items place.parent ≡ false = search rules in
    let free : child c.self.inside.inodes.items place.parent place.name ≡ None = search rules in
    let bound : length c.self.inside.inodes.items < NUMBERS_MAX = search rules in
    let few : nat_le NUMBERS_MAX (length c.self.inside.inodes.items) ≡ false = lt-leb NUMBERS_MAX (length c.self.inside.inodes.items) (omega arith) in
    let grown : c.push_reserved.new.self.items ≡ c.self.inside.inodes.items ++ record { object = c.args.object; place = Some place } ∷ [] = search rules in
    rw grown (made_index c.self.inside.inodes.items c.self.inside.directories c.add.new.self c.self.invariant place.parent place.name c.args.object c.is_directory-mapped.result dir stays free few c.requires.text c.is_directory-mapped.ensures (rw c.lend.ensures at c.in_ok-add.ensures.ok))
