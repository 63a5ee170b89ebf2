-- What every walk's end tells, from the laws of trees.
use Rattle.tree_model.proofs.StepLaws.{nodes_are_left, others_handles_stay}
use Rattle.tree_model.proofs.HistoryLaws.{histories_keep_trees, objects_stay_for_good}
use Rattle.tree_model.proofs.PlaceLaws.{names_below_are_standing, stands_at_one_way}
use Rattle.step_resolver.specs.Headline.{WalksTell}
use Rattle.step_resolver.proofs.Underway.LegalHistory.{TreeLaws, lived, lines_happen}
use Rattle.step_resolver.proofs.Ends.EachEnd.{walk_tells}

pub tree_laws : TreeLaws
tree_laws = record {
  trees = histories_keep_trees;
  objects = objects_stay_for_good;
  others = others_handles_stay;
  below = names_below_are_standing;
  one_way = stands_at_one_way;
  nodes = nodes_are_left;
}

pub walks_tell : WalksTell
walks_tell w end is leads = walk_tells (lived tree_laws w is) end (lines_happen tree_laws w is) leads
