use Rattle.std.proofs.Common.{◌≡◌, take}
use Rattle.std.specs.Prelude.{map}
use Rattle.race_core.proofs.like.like_queues.Given as goal

abbrev pub invariant-loop-at : goal.invariant-loop-at
invariant-loop-at g l = map (g.L.Like.by (λ h. 0)) (take l.at l.queue.items) ≡ map (g.L.Like.by (λ h. 0)) (take l.at l.other.items)
