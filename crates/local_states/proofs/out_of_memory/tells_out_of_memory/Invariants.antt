use Rattle.std.proofs.Common.{◌≡◌, drop}
use Rattle.local_states.specs.OutOfMemory.{replies_out_of_memory}
use Rattle.local_states.proofs.out_of_memory.tells_out_of_memory.Given as goal

abbrev pub invariant-loop-outcomes : goal.invariant-loop-outcomes
invariant-loop-outcomes l = replies_out_of_memory l.replies ≡ replies_out_of_memory (drop l.outcomes-index l.replies)
