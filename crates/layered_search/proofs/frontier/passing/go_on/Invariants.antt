use Rattle.std.proofs.Common.{◌≡◌, ◌≤◌, length}
use Rattle.layered_search.specs.States.{AreStatesAmong}
use Rattle.layered_search.specs.Expanded.{Expansion, IsExpansion, AreExpanded}
use Rattle.layered_search.specs.Found.{AreTold, found_of}
use Rattle.layered_search.specs.Marked.{AreLookedUp}
use Rattle.layered_search.proofs.frontier.passing.go_on.Given as goal

abbrev pub invariant-loop-at : goal.invariant-loop-at
invariant-loop-at g l =
    let s = g.S.TransitionSystem.system l.system in
    let k = g.S.TransitionSystem.keys l.system in
    record {
      expanded : (e : Expansion s k)
          → IsExpansion s k e l.fn.memory l.layer l.transitions (found_of l.fn.found.items)
          → AreExpanded s k e l.memory l.passed.known.states.items l.passed.end_classes.items l.passed.places.items
          (found_of l.found.items);
      told : AreTold s (g.S.TransitionSystem.outcomes l.system) l.found.items;
      looked_up : AreLookedUp k l.passed.known.states.items l.passed.known.table;
      many : length l.passed.end_classes.items ≡ l.at;
      room : l.passed.states ≤ l.room;
      states : AreStatesAmong s k l.passed.known.states.items (length l.passed.known.states.items) l.passed.states;
    }
