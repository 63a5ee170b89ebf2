use Rattle.root_ops.specs.View.{list_of, reply_view}
use Rattle.root_ops.proofs.DrivenCalls.{finished}
use Rattle.root_ops.proofs.driver.finish.Goals as goal

pub returns-clause-driven : goal.returns-clause-driven
returns-clause-driven g c =
    finished c.legal_histories_join.ensures.joined c.args.below.now _ _ _ c.args.wanted c.args.step (list_of c.args.held) c.answer_to-answer.result (reply_view c.reply_to.result)
    (rw (c.lend.ensures, c.owner.ensures) at c.answer_to-answer.ensures) c.close_all.ensures c.reply_to.ensures.reply
