use Rattle.root_ops.specs.View.{doing_view, next_view}
use Rattle.root_ops.proofs.DrivenCalls.{advanced, taken_fewer}
use Rattle.root_ops.proofs.driver.act.Goals as goal

pub returns-clause-driven : goal.returns-clause-driven
returns-clause-driven g c =
    let below = c.args.below.now in
    advanced below below.root.owner.actor _ _ (doing_view c.args.doing) c.answer_to-answer.result (next_view c.taken.result)
    (rw (c.due.ensures below c.requires, c.owner.ensures) at c.answer_to-answer.ensures) c.taken.ensures.turn

pub returns-clause-fewer : goal.returns-clause-fewer
returns-clause-fewer g c = taken_fewer c.args.below.now (doing_view c.args.doing) c.answer_to-answer.result (next_view c.taken.result) c.taken.ensures.turn
