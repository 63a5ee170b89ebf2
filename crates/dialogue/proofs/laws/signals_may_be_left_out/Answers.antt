use Rattle.dialogue.proofs.TalkLemmas.{left_out}
use Rattle.dialogue.proofs.laws.signals_may_be_left_out.Goals as goal

pub returns : goal.returns
returns g c again = left_out
