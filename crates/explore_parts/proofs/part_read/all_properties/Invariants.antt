use Rattle.explore_parts.specs.PartRead.{SaysProperty}
use Rattle.explore_parts.proofs.Reading.{AreReadSoFar}
use Rattle.explore_parts.proofs.part_read.all_properties.Given as goal

abbrev pub invariant-loop-value : goal.invariant-loop-value
invariant-loop-value l = AreReadSoFar SaysProperty l.values l.value-index l.all.items
