use Rattle.kernel_calls.proofs.ResolveLemmas.{paths-hold}
use Rattle.kernel_calls.proofs.laws.paths_are_looked_up_as_a_whole.Goals as goal

pub returns : goal.returns
returns c = paths-hold
