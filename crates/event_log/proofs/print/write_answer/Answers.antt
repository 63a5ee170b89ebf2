use Rattle.std.proofs.Common.{ap}
use Rattle.event_log.specs.Shapes.{answer_read}
use Rattle.event_log.proofs.Printed.{listed_in_place}
use Rattle.event_log.proofs.print.write_answer.Goals as goal

pub returns-in_ok-answer_head-in-Listed : goal.returns-in_ok-answer_head-in-Listed
returns-in_ok-answer_head-in-Listed c =
    listed_in_place _ _ _ c.args.bytes.now c.in-Listed.count _ _ (ap (λ shape. answer_read shape c.args.bytes.now) c.in-Listed.is)
    c.in_ok-answer_head-in-Listed.ensures c.write_names.ensures
