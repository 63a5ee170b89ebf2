use Rattle.root_ops.specs.Order.{more}
use Rattle.root_ops.specs.TurnView.{turn_view, TakesTo}
use Rattle.root_ops.specs.View.{CallView}
use Rattle.std.proofs.Common.{subst}
use Rattle.race_core.proofs.Stepping.{advanced}
use Rattle.race_core.proofs.advance.advance.Goals as goal

pub returns-then-pass-clause-advances : goal.returns-then-pass-clause-advances
returns-then-pass-clause-advances g c =
    advanced c.args.book.now c.args.actor c.args.call c.answer_due-answer.result c.answer_due-answer.new.book (more c.pass.new.self.doing)
    c.answer_due-answer.ensures (c.pass.ensures.turn c.if-pass.true)

pub returns-clause-advances : goal.returns-clause-advances
returns-clause-advances g c =
    advanced c.args.book.now c.args.actor c.args.call c.answer_due-answer.result c.answer_due-answer.new.book _ c.answer_due-answer.ensures
    (subst (λ (call : CallView). TakesTo call.below call.doing c.answer_due-answer.result (turn_view c.take.result)) (c.pass.ensures.left c.if-pass.false) c.take.ensures.turn)
