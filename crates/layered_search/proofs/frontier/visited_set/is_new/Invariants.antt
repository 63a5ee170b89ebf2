use Rattle.layered_search.specs.Marked.{IsOneAt}
use Rattle.layered_search.proofs.Lists.Chains.{IsAlong, up_to}
use Rattle.layered_search.proofs.frontier.visited_set.is_new.Given as goal

abbrev pub invariant-loop-place : goal.invariant-loop-place
invariant-loop-place g l =
    IsAlong l.table l.fn.print (IsOneAt (g.S.TransitionSystem.keys l.system) l.key l.states) l.place

abbrev pub decreases-loop-place : goal.decreases-loop-place
decreases-loop-place g l = up_to l.place
