use Rattle.std.proofs.Common.{◌≡◌, drop}
use Rattle.local_states.specs.OutOfMemory.{any_out_of_memory}
use Rattle.local_states.proofs.out_of_memory.any_out_of_memory.Given as goal

abbrev pub invariant-loop-outcome : goal.invariant-loop-outcome
invariant-loop-outcome l = any_out_of_memory l.outcomes ≡ any_out_of_memory (drop l.outcome-index l.outcomes)
