use Rattle.std.proofs.Common.{◌≡◌, ◌+◌, drop}
use Rattle.layered_search.proofs.Layers.Markings.{count_new}
use Rattle.layered_search.proofs.frontier.visited_set.count_states.Given as goal

abbrev pub invariant-loop-at : goal.invariant-loop-at
invariant-loop-at g l = l.count + count_new (drop l.at l.states) ≡ count_new (drop l.from l.states)
