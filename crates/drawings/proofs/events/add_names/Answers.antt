use Rattle.drawings.proofs.Lists.{name_more}
use Rattle.drawings.proofs.events.add_names.Goals as goal

pub loop-at-preserved : goal.loop-at-preserved
loop-at-preserved c =
    name_more c.args.names.now c.loop-at.at c.get.result.now c.loop-at.out c.text.new.self c.escaped.new.self _ c.get.ensures.same c.in_ok-text.ensures c.in_ok-escaped.ensures c.loop-at.invariant
