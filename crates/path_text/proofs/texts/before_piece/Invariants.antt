use Rattle.std.proofs.Common.{length}
use Rattle.path_text.proofs.PlacesLemmas.{IsCut}
use Rattle.path_text.proofs.texts.before_piece.Given as goal

abbrev pub invariant-loop-before : goal.invariant-loop-before
invariant-loop-before l = IsCut l.text l.rest

abbrev pub decreases-loop-before : goal.decreases-loop-before
decreases-loop-before l = length l.rest
