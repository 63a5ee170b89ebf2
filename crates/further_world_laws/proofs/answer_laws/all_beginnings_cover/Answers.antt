use Rattle.further_world_laws.proofs.Beginnings.{all_beginnings_cover}
use Rattle.further_world_laws.proofs.answer_laws.all_beginnings_cover.Goals as goal

pub returns : goal.returns
returns c = all_beginnings_cover
