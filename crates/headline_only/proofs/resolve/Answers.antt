use Rattle.std.proofs.Common.{subst}
use Rattle.step_resolver.specs.Footprint.{IsEnd}
use Rattle.step_resolver.specs.Order.{Way}
use Rattle.step_resolver.specs.TurnView.{turn_view}
use Rattle.step_resolver.specs.View.{way_from}
use Rattle.headline_only.proofs.Alone.{is_over, told_from, told_at_once}
use Rattle.headline_only.proofs.resolve.Goals as goal

pub returns-in-More : goal.returns-in-More
returns-in-More g c =
    let way : Way = way_from c.args.root c.args.goal c.args.flags in
    record {
      over = subst (λ (v : Way). IsEnd (turn_view v.goal c.drive.result)) c.in-More.ensures.kept.1 c.drive.ensures.over;
      tells = told_from c.headline.ensures way c.in-More.walk.way c.args.path c.args.root.owner.actor _ _ c.in-More.walk.walking c.drive.result
          c.in-More.ensures.kept.1 c.in-More.ensures.turn c.drive.ensures.led;
    }

pub returns-in_default : goal.returns-in_default
returns-in_default g c = record {
  over = is_over c.args.goal c.start.result c.in_default.not-More;
  tells = told_at_once c.headline.ensures (way_from c.args.root c.args.goal c.args.flags) c.args.path c.args.root.owner.actor _ (turn_view c.args.goal c.start.result) c.start.ensures.turn;
}
