use Rattle.merge_laws.proofs.OfScripts.{merged_parts_of_a_script_are_the_whole}
use Rattle.merge_laws.proofs.laws.merged_parts_of_a_script_are_the_whole.Goals as goal

pub returns : goal.returns
returns c = merged_parts_of_a_script_are_the_whole
