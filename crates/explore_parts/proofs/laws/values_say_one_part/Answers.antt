use Rattle.explore_parts.proofs.OnePart.{values_say_one_part}
use Rattle.explore_parts.proofs.laws.values_say_one_part.Goals as goal

pub returns : goal.returns
returns c = values_say_one_part
