use Rattle.std.proofs.Common.{rules}
use Rattle.tree_steps.proofs.NamesDown.{told_whole, told_none}
use Rattle.tree_steps.proofs.below.names_down.Goals as goal

pub returns-in-Below : goal.returns-in-Below
returns-in-Below c =
    told_whole c.depth_of.result c.args.nodes.now c.args.top c.args.x c.new-names.result c.add_names.new.names c.depth_of.ensures c.new-names.ensures c.in_ok-add_names.field-0 (search rules) c.in_ok-add_names.ensures

pub returns-in-Apart : goal.returns-in-Apart
returns-in-Apart c =
    told_none c.depth_of.result c.args.nodes.now c.args.top c.args.x c.new-names.result c.add_names.new.names c.depth_of.ensures c.in_ok-add_names.field-0 (search rules) c.in_ok-add_names.ensures
