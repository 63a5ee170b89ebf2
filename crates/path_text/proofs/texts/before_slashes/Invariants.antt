use Rattle.std.proofs.Common.{◌≡◌, length}
use Rattle.path_text.specs.Parts.{BeginsWith}
use Rattle.path_text.specs.Text.{pieces}
use Rattle.path_text.proofs.texts.before_slashes.Given as goal

abbrev pub invariant-loop-before : goal.invariant-loop-before
invariant-loop-before l = BeginsWith l.text l.rest × (pieces l.rest ≡ pieces l.text)

abbrev pub decreases-loop-before : goal.decreases-loop-before
decreases-loop-before l = length l.rest
