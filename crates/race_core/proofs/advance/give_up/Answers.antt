use Rattle.race_core.proofs.GivenUp.{led_at_first, led_further, given_up}
use Rattle.race_core.proofs.advance.give_up.Goals as goal

pub loop-turn-init : goal.loop-turn-init
loop-turn-init g c = record { led = led_at_first c.args.actor c.args.book.now c.args.call }

pub loop-turn-preserved : goal.loop-turn-preserved
loop-turn-preserved g c = record {
  led = led_further c.args.actor c.args.book.now c.args.call c.loop-turn.book c.answer_without-answer.new.book c.loop-turn.turn c.take-turn.result c.in-More.call
      c.answer_without-answer.result c.in-More.is c.loop-turn.invariant.led c.answer_without-answer.ensures.answer c.answer_without-answer.ensures.left
      c.take-turn.ensures.turn c.take-turn.ensures.kept;
}

pub returns-in-Done : goal.returns-in-Done
returns-in-Done g c = given_up c.args.actor c.args.book.now c.args.call c.loop-turn.book c.loop-turn.turn c.in-Done._reply c.in-Done.is c.loop-turn.invariant.led
