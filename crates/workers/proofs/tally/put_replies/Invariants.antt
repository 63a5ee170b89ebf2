use Rattle.std.proofs.Common.{◌≡◌, ℕ, ◌<◌, length, slice_get}
use Rattle.std.specs.Vec.Iter.{into_iter_items}
use Rattle.workers.specs.Serve.{last_to}
use Rattle.workers.proofs.tally.put_replies.Given as goal

abbrev pub invariant-loop-numbered : goal.invariant-loop-numbered
invariant-loop-numbered l = (job : ℕ) → job < length l.replies → last_to job (slice_get l.replies job) (into_iter_items l.numbered-iterator) ≡ last_to job (slice_get l.initial.replies job) l.fn.told
