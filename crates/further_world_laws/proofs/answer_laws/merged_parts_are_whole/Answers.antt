use Rattle.further_world_laws.proofs.PartsJoined.{parts_make_the_whole}
use Rattle.further_world_laws.proofs.WholePart.{whole_is_a_part}
use Rattle.further_world_laws.proofs.answer_laws.merged_parts_are_whole.Goals as goal

pub returns : goal.returns
returns c = record { parts = parts_make_the_whole; whole = whole_is_a_part }
