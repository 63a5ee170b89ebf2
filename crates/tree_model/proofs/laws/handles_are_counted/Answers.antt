use Rattle.tree_model.proofs.Counts.{handles_are_counted, others_counts_stay, limits_are_kept}
use Rattle.tree_model.proofs.laws.handles_are_counted.Goals as goal

pub returns : goal.returns
returns c = record { counted = handles_are_counted; others = others_counts_stay; limits = limits_are_kept }
