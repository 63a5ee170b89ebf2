use Rattle.event_log.proofs.Lines.{listed_line}
use Rattle.event_log.proofs.output.Output.answer.Goals as goal

pub returns-in_ok-answer_head-in-Listed : goal.returns-in_ok-answer_head-in-Listed
returns-in_ok-answer_head-in-Listed c =
    listed_line _ _ _ _ _ _ _ c.in-Listed.is c.len.ensures.count c.in_ok-answer_head-in-Listed.ensures c.names_after_blanks.ensures
