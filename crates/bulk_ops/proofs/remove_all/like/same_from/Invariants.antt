use Rattle.std.proofs.Common.{◌≡◌, take, drop}
use Rattle.bulk_ops.proofs.remove_all.like.same_from.Given as goal

abbrev pub invariant-loop-k : goal.invariant-loop-k
invariant-loop-k l = take l.k (drop l.at l.names) ≡ take l.k (drop l.place l.others)
