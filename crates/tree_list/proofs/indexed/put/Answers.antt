use Rattle.std.proofs.Common.{rules, ◌<◌, length}
use Rattle.tree_list.proofs.Index.{put_one}
use Rattle.tree_list.proofs.indexed.put.Goals as goal

pub returns-clause-ok : goal.returns-clause-ok
returns-clause-ok c =
    let there : c.number.result < length c.args.index.now = search rules in
    rw (← c.number.ensures) (put_one c.args.index.now c.number.result _ c.insert.new.self c.args.name.items c.args.x there c.index-index-number.is c.in_ok-insert.ensures.updates.1 (rw (← c.index-index-number.is) at c.in_ok-insert.ensures.updates.3))
