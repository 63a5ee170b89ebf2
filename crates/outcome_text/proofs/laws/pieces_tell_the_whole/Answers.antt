use Rattle.outcome_text.proofs.InPieces.{pieces_tell_the_whole}
use Rattle.outcome_text.proofs.laws.pieces_tell_the_whole.Goals as goal

pub returns : goal.returns
returns c = pieces_tell_the_whole
