use Rattle.std.proofs.Common.{rules, arith, ◌≡◌}
use Rattle.tree_slab.specs.Index.{is_standing_dir}
use Rattle.tree_slab.proofs.Started.{one_map_more, all_maps}
use Rattle.tree_slab.proofs.nodes.empty_maps.Goals as goal

pub loop-number-preserved : goal.loop-number-preserved
loop-number-preserved c =
    let standing : c.is_standing_dir.result ≡ is_standing_dir c.args.inodes.now c.loop-number.number = search rules in
    rw c.in_ok-grow.ensures.ok (one_map_more c.args.inodes.now c.loop-number.directories c.loop-number.number c.is_standing_dir.result c.loop-number.invariant standing)

pub returns : goal.returns
returns c =
    all_maps c.args.inodes.now c.loop-number.directories c.loop-number.number (omega arith) (omega arith) c.loop-number.invariant
