use Rattle.path_text.specs.Reading.{Reading}
use Rattle.bulk_ops.specs.MakeAllOrder as make
use Rattle.root_ops.specs.Order.{make_way, makes}
use Rattle.root_ops.proofs.Texts.{first_read}
use Rattle.root_ops.proofs.first.on_missing.Goals as goal

pub returns-clause-turn : goal.returns-clause-turn
returns-clause-turn c = λ below turn by.
    first_read (λ (path : Reading). makes (make.begins (make_way below) path)) c.args.text.now c.as_slice.result.now c.in_ok-path.path turn c.as_slice.ensures c.in_ok-path.ensures by
