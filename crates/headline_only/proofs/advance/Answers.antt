use Rattle.headline_only.proofs.Alone.{advanced}
use Rattle.headline_only.proofs.advance.Goals as goal

pub returns-clause-led : goal.returns-clause-led
returns-clause-led g c = advanced c.args.walk.way c.args.actor _ _ c.args.walk.walking c.answer_due-answer.result _ c.answer_due-answer.ensures c.take.ensures.turn
