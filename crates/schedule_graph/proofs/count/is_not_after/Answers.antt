use Rattle.std.proofs.Common.{◌∙◌}
use Rattle.schedule_graph.proofs.Ranks.{not_after_none}
use Rattle.schedule_graph.proofs.count.is_not_after.Goals as goal

pub returns-in-None : goal.returns-in-None
returns-in-None c = c.is_empty.ensures ∙ not_after_none c.args.labels.now c.args.others.now c.in-None.ensures.cases
