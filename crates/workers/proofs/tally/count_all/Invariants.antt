use Rattle.std.proofs.Common.{◌≡◌, ℕ, ◌<◌, min, length, get_or, take}
use Rattle.workers.specs.Serve.{replies_to, joined}
use Rattle.workers.proofs.tally.count_all.Given as goal

abbrev pub invariant-loop-told : goal.invariant-loop-told
invariant-loop-told l = (job : ℕ) → job < length l.counts → get_or l.counts job 0 ≡ min 2 (replies_to job (joined (take l.told-index l.lists)))
