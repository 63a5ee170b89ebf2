use Rattle.tree_steps.proofs.below.+add_names.Given as goal

abbrev pub decreases-add_names : goal.decreases-add_names
decreases-add_names l = l.depth
