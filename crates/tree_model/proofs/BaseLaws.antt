-- The step table tried out on the base tree.
use Rattle.std.proofs.Common.{refl}
use Rattle.tree_model.specs.BaseLaws.{base, BaseIsTree, BaseOpens, BasePlaces, BaseEntries, BaseGone, BaseRenames, BaseRenamed}
use Rattle.tree_model.specs.BaseTree.{base_tree}
use Rattle.tree_model.proofs.TreeTests.{IsState-from_test}

pub base_opens : BaseOpens
base_opens = (refl, refl, refl, refl, refl, refl, refl, refl, refl, refl)

pub base_places : BasePlaces
base_places = (refl, refl, refl, refl, refl, refl, refl, refl)

pub base_entries : BaseEntries
base_entries = (refl, refl, refl, refl, refl, refl, refl, refl)

pub base_gone : BaseGone
base_gone = (refl, refl, refl, refl, refl, refl)

pub base_renames : BaseRenames
base_renames = (refl, refl, refl, refl, refl, refl, refl, refl, refl, refl, refl, refl)

pub base_renamed : BaseRenamed
base_renamed = ((refl, refl), (refl, refl, refl), (refl, refl, refl))

pub base_is_tree : BaseIsTree
base_is_tree = (IsState-from_test base_tree refl, IsState-from_test base refl)
