use Rattle.std.proofs.Common.{[], true, ap}
use Rattle.root_ops.specs.Order.{acting, ends}
use Rattle.root_ops.specs.View.{reply_view}
use Rattle.root_ops.specs.declared.aim.Wanted.TheVariants.{Any}
use Rattle.root_ops.proofs.DrivenCalls.{advanced}
use Rattle.root_ops.proofs.driver.single.Goals as goal

pub returns-clause-driven : goal.returns-clause-driven
returns-clause-driven g c =
    let below = c.args.below in
    advanced below below.root.owner.actor _ _ (acting Any c.args.step []) c.answer_to-answer.result (ends (reply_view c.reply_to.result))
    (rw (c.lend.ensures, c.owner.ensures) at c.answer_to-answer.ensures) (true, ap ends c.reply_to.ensures.reply)
