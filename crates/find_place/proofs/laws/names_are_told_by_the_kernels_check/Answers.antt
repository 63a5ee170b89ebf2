use Rattle.find_place.proofs.HeldLemmas.{names-are-told-by-the-kernels-check}
use Rattle.find_place.proofs.laws.names_are_told_by_the_kernels_check.Goals as goal

pub returns : goal.returns
returns c = names-are-told-by-the-kernels-check
