use Rattle.bulk_ops.specs.RemoveAllView.{phase_turn}
use Rattle.bulk_ops.proofs.RemovingAll.Phases.{begun}
use Rattle.bulk_ops.proofs.remove_all.clearing.Clearing.begin.Goals as goal

pub returns : goal.returns
returns c = begun c.args.dir.handle c.args.target c.new.result.items (phase_turn c.due.result) c.requires c.new.ensures.items c.due.ensures
