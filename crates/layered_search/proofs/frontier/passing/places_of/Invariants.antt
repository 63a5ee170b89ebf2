use Rattle.std.proofs.Common.{take}
use Rattle.layered_search.specs.Expanded.{AreTaken}
use Rattle.layered_search.specs.Marked.{AreLookedUp}
use Rattle.layered_search.proofs.frontier.passing.places_of.Given as goal

abbrev pub invariant-loop-at : goal.invariant-loop-at
invariant-loop-at g l =
    let s = g.S.TransitionSystem.system l.system in
    let k = g.S.TransitionSystem.keys l.system in
    record {
      looked_up : AreLookedUp k l.known.states.items l.known.table;
      taken : AreTaken s k l.configurations l.visited (take l.at l.transitions) l.fn.memory l.memory
          l.fn.known.states.items l.known.states.items l.places.items;
    }
