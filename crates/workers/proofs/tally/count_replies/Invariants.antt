use Rattle.std.proofs.Common.{◌≡◌, ℕ, ◌+◌, ◌<◌, min, length, get_or, take}
use Rattle.workers.specs.Serve.{replies_to}
use Rattle.workers.proofs.tally.count_replies.Given as goal

abbrev pub invariant-loop-numbered : goal.invariant-loop-numbered
invariant-loop-numbered l = (job : ℕ) → job < length l.counts → get_or l.counts job 0 ≡ min 2 (get_or l.initial.counts job 0 + replies_to job (take l.numbered-index l.told))
