use Rattle.walk_plan.specs.declared.goal.Goal.TheVariants.{Follow}
use Rattle.step_resolver.specs.View.{way_from}
use Rattle.bulk_ops.proofs.RemovingAll.TurnsTell.{begun_tells}
use Rattle.bulk_ops.proofs.remove_all.RemoveAll.start.Goals as goal

pub returns-clause-tells : goal.returns-clause-tells
returns-clause-tells c =
    begun_tells (way_from c.args.root Follow c.args.flags) c.args.name c.args.directory c.started.result c.started.ensures.turn
