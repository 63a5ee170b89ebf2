use Rattle.root_ops.specs.View.{reply_view}
use Rattle.root_ops.proofs.DrivenCalls.{released}
use Rattle.root_ops.proofs.driver.release.Goals as goal

pub returns-clause-driven : goal.returns-clause-driven
returns-clause-driven g c =
    released c.args.below c.args.standing _ _ c.answer_to-answer.result (reply_view c.reply_to.result)
    (cc (c.owner.ensures, c.owner-2.ensures, c.same_owner.ensures, c.if-not-same_owner.false))
    (rw (c.handle.ensures, c.owner-3.ensures) at c.answer_to-answer.ensures) c.reply_to.ensures.reply
