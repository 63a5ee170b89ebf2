use Rattle.std.proofs.Common.{rules, arith}
use Rattle.tree_slab.proofs.Started.{no_entries_yet, parent_has_map, one_entry_more, all_entries}
use Rattle.tree_slab.proofs.nodes.link_all.Goals as goal

pub loop-number-init : goal.loop-number-init
loop-number-init c =
    no_entries_yet _ _ c.requires.empty

pub link-requires : goal.link-requires
link-requires c =
    parent_has_map c.args.inodes.now c.loop-number.directories c.loop-number.number _ c.requires.tree c.loop-number.invariant c.loop-number-test.true c.index-inodes-number.is

pub loop-number-preserved : goal.loop-number-preserved
loop-number-preserved c =
    one_entry_more c.args.inodes.now c.loop-number.directories c.link.new.directories c.loop-number.number _ c.requires.tree c.loop-number.invariant c.loop-number-test.true c.index-inodes-number.is (search rules)

pub returns : goal.returns
returns c =
    all_entries c.args.inodes.now c.loop-number.directories c.loop-number.number c.requires.tree (omega arith) c.loop-number.invariant
