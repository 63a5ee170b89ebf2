use Rattle.dialogue.proofs.TalkLemmas.{kept}
use Rattle.dialogue.proofs.laws.checkpoints_are_kept.Goals as goal

pub returns : goal.returns
returns g c again = kept
