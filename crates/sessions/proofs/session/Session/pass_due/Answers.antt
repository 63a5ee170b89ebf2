use Rattle.root_ops.specs.Order.{more}
use Rattle.sessions.proofs.Calls.{advanced}
use Rattle.sessions.proofs.session.Session.pass_due.Goals as goal

pub returns-then-pass-clause-passed : goal.returns-then-pass-clause-passed
returns-then-pass-clause-passed g c =
    let call = c.args.call.now in
    λ _. advanced call.below c.args.self.now c.answer_due-answer.new.self call.doing c.answer_due-answer.result (more c.pass.new.self.doing)
    c.answer_due-answer.ensures (c.pass.ensures.turn c.if-pass.true)
