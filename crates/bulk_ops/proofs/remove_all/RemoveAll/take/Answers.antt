use Rattle.bulk_ops.proofs.RemovingAll.TurnsTell.{taken_tells}
use Rattle.bulk_ops.proofs.remove_all.RemoveAll.take.Goals as goal

pub returns-clause-tells : goal.returns-clause-tells
returns-clause-tells c = taken_tells c.args.self c.args.answer c.taken.result c.taken.ensures.turn
