use Rattle.std.proofs.Common.{◌<◌, ◌≡◌, ℕ, get_or}
use Rattle.workers.proofs.tally.first_lost.Given as goal

abbrev pub invariant-loop-job : goal.invariant-loop-job
invariant-loop-job l = (k : ℕ) → k < l.job → get_or l.counts k 0 ≡ 0 → ⊥
