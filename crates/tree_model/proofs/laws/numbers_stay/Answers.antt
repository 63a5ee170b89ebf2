use Rattle.tree_model.proofs.StepLaws.{numbers_grow, numbers_grow_by_one, objects_stay}
use Rattle.tree_model.proofs.laws.numbers_stay.Goals as goal

pub returns : goal.returns
returns c = record { grow = numbers_grow; by_one = numbers_grow_by_one; objects = objects_stay }
