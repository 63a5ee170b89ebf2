use Rattle.explore_parts.specs.PartRead.{SaysTold}
use Rattle.explore_parts.proofs.Reading.{AreReadSoFar}
use Rattle.explore_parts.proofs.part_read.all_told.Given as goal

abbrev pub invariant-loop-value : goal.invariant-loop-value
invariant-loop-value l = AreReadSoFar SaysTold l.values l.value-index l.all.items
