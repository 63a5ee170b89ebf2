use Rattle.find_place.proofs.CallLemmas.{questions-come-to-an-end}
use Rattle.find_place.proofs.laws.questions_come_to_an_end.Goals as goal

pub returns : goal.returns
returns c = questions-come-to-an-end
