use Rattle.std.proofs.Common.{◌≡◌, ℕ, ◌<◌, length, slice_get}
use Rattle.std.specs.Vec.Iter.{into_iter_items}
use Rattle.workers.specs.Serve.{last_to, joined}
use Rattle.workers.proofs.tally.put_all.Given as goal

abbrev pub invariant-loop-told : goal.invariant-loop-told
invariant-loop-told l = (job : ℕ) → job < length l.replies → last_to job (slice_get l.replies job) (joined (into_iter_items l.told-iterator)) ≡ last_to job (slice_get l.initial.replies job) (joined l.fn.lists.items)
