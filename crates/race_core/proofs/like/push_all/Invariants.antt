use Rattle.std.proofs.Common.{◌≡◌, ◌++◌, take}
use Rattle.std.specs.List.{flat_map}
use Rattle.race_core.proofs.like.push_all.Given as goal

abbrev pub invariant-loop-one : goal.invariant-loop-one
invariant-loop-one g l = l.into.items ≡ l.fn.into.items ++ flat_map g.L.Like.handles (take l.one-index l.all)
