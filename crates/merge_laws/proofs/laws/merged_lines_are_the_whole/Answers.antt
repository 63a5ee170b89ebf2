use Rattle.merge_laws.proofs.Printed.{merged_lines_are_the_whole}
use Rattle.merge_laws.proofs.laws.merged_lines_are_the_whole.Goals as goal

pub returns : goal.returns
returns c = merged_lines_are_the_whole
