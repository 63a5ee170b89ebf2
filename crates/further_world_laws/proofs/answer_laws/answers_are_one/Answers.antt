use Rattle.further_world_laws.proofs.OneAnswer.{answers_are_one}
use Rattle.further_world_laws.proofs.answer_laws.answers_are_one.Goals as goal

pub returns : goal.returns
returns c = answers_are_one
