use Rattle.std.proofs.Common.{true}
use Rattle.bulk_ops.specs.RemoveAllView.{phase_turn}
use Rattle.bulk_ops.proofs.RemovingAll.Phases.{entered_first}
use Rattle.bulk_ops.proofs.remove_all.clearing.Progress.entered.Goals as goal

pub returns-in-Ok-push : goal.returns-in-Ok-push
returns-in-Ok-push c = (
  true,
  entered_first c.args.child.handle c.args.names c.in-Ok.inner c.args.self.here c.args.self.above.items c.push.new.self.items
      c.args.self.removed c.args.self.left (phase_turn c.due-in-Ok-push.result) c.in-Ok.ensures c.in-Ok-push.ensures.items c.due-in-Ok-push.ensures,
)
