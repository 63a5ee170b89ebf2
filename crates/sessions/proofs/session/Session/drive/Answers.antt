use Rattle.std.proofs.Common.{◌∙◌, ap}
use Rattle.root_ops.specs.Order.{more, ends}
use Rattle.root_ops.specs.View.{CallView, reply_view}
use Rattle.sessions.proofs.Calls.{passed_on, taken_on}
use Rattle.sessions.proofs.session.Session.drive.Goals as goal

pub loop-answer-preserved-in-None : goal.loop-answer-preserved-in-None
loop-answer-preserved-in-None g c = record {
  below = c.in-None.ensures.below ∙ c.loop-answer.invariant.below;
  led = passed_on c.loop-answer.call.below c.args.call.below c.args.self.now c.loop-answer.self c.pass_due.new.self _ _ _ c.loop-answer.invariant.below
      c.loop-answer.invariant.led (c.pass_due.ensures.passed c.in-None.is);
}

pub loop-answer-preserved : goal.loop-answer-preserved
loop-answer-preserved g c = record {
  below = c.in-More.ensures.kept ∙ ap (λ (call : CallView). call.below) c.in-Some.ensures.left.0 ∙ c.loop-answer.invariant.below;
  led = taken_on c.args.call.below c.args.self.now c.loop-answer.self c.pass_due.new.self _ (more c.in-More.next.doing) c.loop-answer.call c.pass_due.new.call c.in-Some.answer
      c.loop-answer.invariant.below c.in-Some.ensures.left.0 c.loop-answer.invariant.led c.in-Some.ensures.left.1 c.in-More.ensures.turn;
}

pub returns-in-Done-clause-led : goal.returns-in-Done-clause-led
returns-in-Done-clause-led g c =
    taken_on c.args.call.below c.args.self.now c.loop-answer.self c.pass_due.new.self _ (ends (reply_view c.in-Done.reply)) c.loop-answer.call c.pass_due.new.call c.in-Some.answer
    c.loop-answer.invariant.below c.in-Some.ensures.left.0 c.loop-answer.invariant.led c.in-Some.ensures.left.1 c.in-Done.ensures.turn
