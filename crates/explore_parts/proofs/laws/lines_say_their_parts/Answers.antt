use Rattle.explore_parts.proofs.PartSaid.{lines_say_their_parts}
use Rattle.explore_parts.proofs.laws.lines_say_their_parts.Goals as goal

pub returns : goal.returns
returns c = lines_say_their_parts
