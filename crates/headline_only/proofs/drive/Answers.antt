use Rattle.std.proofs.Common.{◌∙◌, subst}
use Rattle.step_resolver.specs.Order.{Way, more}
use Rattle.step_resolver.specs.TurnView.{turn_view}
use Rattle.headline_only.specs.Alone.{Leads}
use Rattle.headline_only.proofs.Alone.{led_on, is_over}
use Rattle.headline_only.proofs.drive.Goals as goal

pub loop-next-preserved : goal.loop-next-preserved
loop-next-preserved g c = record {
  way = c.in-More.ensures.kept.1 ∙ c.loop-next.invariant.way;
  led = led_on c.args.walk.way c.args.actor _ _ _ _ _ _ c.loop-next.invariant.led
      (subst (λ (way : Way). Leads way c.args.actor (g.B.Book.booked c.loop-next.book) (more c.loop-next.walk.walking) (g.B.Book.booked c.advance.new.book) (more c.in-More.next.walking))
      c.loop-next.invariant.way c.in-More.ensures.led);
}

pub returns-in_default : goal.returns-in_default
returns-in_default g c = record {
  led = led_on c.args.walk.way c.args.actor _ _ _ _ _ _ c.loop-next.invariant.led
      (subst (λ (way : Way). Leads way c.args.actor (g.B.Book.booked c.loop-next.book) (more c.loop-next.walk.walking) (g.B.Book.booked c.advance.new.book) (turn_view way.goal c.advance.result))
      c.loop-next.invariant.way c.advance.ensures.led);
  over = is_over c.args.walk.way.goal c.advance.result c.in_default.not-More;
}
