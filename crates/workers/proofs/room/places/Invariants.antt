use Rattle.std.proofs.Common.{◌≡◌, vec_len}
use Rattle.workers.proofs.room.places.Given as goal

abbrev pub invariant-loop-place : goal.invariant-loop-place
invariant-loop-place l = vec_len l.places ≡ l.place
