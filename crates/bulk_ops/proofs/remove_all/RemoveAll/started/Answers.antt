use Rattle.walk_plan.specs.declared.goal.Goal.TheVariants.{Follow}
use Rattle.step_resolver.specs.View.{way_from}
use Rattle.bulk_ops.proofs.RemovingAll.FirstTurns.{starts_first}
use Rattle.bulk_ops.proofs.remove_all.RemoveAll.started.Goals as goal

pub first-requires : goal.first-requires
first-requires c = starts_first (way_from c.args.root Follow c.args.flags) c.args.directory _ c.in-More.ensures.turn

pub unreachable-requires : goal.unreachable-requires
unreachable-requires c = starts_first (way_from c.args.root Follow c.args.flags) c.args.directory _ c.in-Found.ensures.turn

pub unreachable-requires-in-Partial : goal.unreachable-requires-in-Partial
unreachable-requires-in-Partial c = starts_first (way_from c.args.root Follow c.args.flags) c.args.directory _ c.in-Partial.ensures.turn
