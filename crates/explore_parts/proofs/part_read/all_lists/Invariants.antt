use Rattle.explore_parts.specs.PartRead.{SaysActors}
use Rattle.explore_parts.proofs.Reading.{AreReadSoFar}
use Rattle.explore_parts.proofs.part_read.all_lists.Given as goal

abbrev pub invariant-loop-value : goal.invariant-loop-value
invariant-loop-value l = AreReadSoFar SaysActors l.values l.value-index l.lists.items
