use Rattle.std.proofs.Common.{◌<◌, ℕ, get_or}
use Rattle.workers.proofs.tally.first_doubled.Given as goal

abbrev pub invariant-loop-job : goal.invariant-loop-job
invariant-loop-job l = (k : ℕ) → k < l.job → 1 < get_or l.counts k 0 → ⊥
