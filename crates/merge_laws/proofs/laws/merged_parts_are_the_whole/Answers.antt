use Rattle.merge_laws.proofs.Merged.{merged_parts_are_the_whole}
use Rattle.merge_laws.proofs.laws.merged_parts_are_the_whole.Goals as goal

pub returns : goal.returns
returns c = merged_parts_are_the_whole
