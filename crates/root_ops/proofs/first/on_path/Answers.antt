use Rattle.path_text.specs.Reading.{Reading}
use Rattle.root_ops.specs.Order.{walks}
use Rattle.root_ops.proofs.Texts.{first_read}
use Rattle.root_ops.proofs.first.on_path.Goals as goal

pub returns-clause-turn : goal.returns-clause-turn
returns-clause-turn c = λ below turn by.
    first_read (λ (path : Reading). walks below c.args.aim path) c.args.text.now c.as_slice.result.now c.in_ok-path.path turn c.as_slice.ensures c.in_ok-path.ensures by
