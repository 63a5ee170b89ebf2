use Rattle.tree_model.proofs.HistoryLaws.{legal_at_each_moment, events_lead_on, trees_begin_and_end}
use Rattle.tree_model.proofs.laws.histories_are_step_by_step.Goals as goal

pub returns : goal.returns
returns c = record { answers = legal_at_each_moment; trees = events_lead_on; ends = trees_begin_and_end }
