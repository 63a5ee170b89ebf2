use Rattle.explore_parts.specs.PartRead.{SaysActor}
use Rattle.explore_parts.proofs.Reading.{AreReadSoFar}
use Rattle.explore_parts.proofs.part_read.all_actors.Given as goal

abbrev pub invariant-loop-value : goal.invariant-loop-value
invariant-loop-value l = AreReadSoFar SaysActor l.values l.value-index l.actors.items
