use Rattle.further_world_laws.proofs.SearchedPart.{searches_tell_parts}
use Rattle.further_world_laws.proofs.answer_laws.searches_tell_parts.Goals as goal

pub returns : goal.returns
returns c = searches_tell_parts
