use Rattle.std.proofs.Common.{◌≡◌, replicate}
use Rattle.run_command.proofs.jobs.roots_of.Given as goal

abbrev pub invariant-loop-worker : goal.invariant-loop-worker
invariant-loop-worker l = l.roots.items ≡ replicate l.worker l.root
