use Rattle.std.proofs.Common.{◌≡◌, take}
use Rattle.layered_search.proofs.searching.turns_of.Given as goal

abbrev pub invariant-loop-actor : goal.invariant-loop-actor
invariant-loop-actor l = l.turns.items ≡ take l.actor-index l.list
