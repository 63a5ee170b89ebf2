use Rattle.layered_search.specs.Limits.{scope_of}
use Rattle.std.proofs.Common.{◌<◌, ◌≤◌, ◌+◌, ◌-◌, ◌^◌, length}
use Rattle.layered_search.specs.Found.{AreTold, found_of}
use Rattle.layered_search.specs.Kept.{layer_of, AreKept}
use Rattle.layered_search.specs.Layers.{HasSearched}
use Rattle.layered_search.specs.States.{IsCounted}
use Rattle.layered_search.proofs.searching.layers.Given as goal

abbrev pub invariant-layers : goal.invariant-layers
invariant-layers g l =
    let s = g.S.TransitionSystem.system l.system in
    let k = g.S.TransitionSystem.keys l.system in record {
      searched : HasSearched s (scope_of l.limits.scope) (layer_of l.layer) l.graph (found_of l.found.items);
      kept : AreKept s k l.memory (length l.graph) l.layer;
      told : AreTold s (g.S.TransitionSystem.outcomes l.system) l.found.items;
      depth : length l.graph ≤ l.limits.turns + 1;
      short : length l.graph < 2 ^ 40;
      states : l.states ≤ l.limits.states;
      counted : IsCounted s k l.memory (scope_of l.limits.scope) (length l.graph) l.states l.layer;
    }

abbrev pub decreases-layers : goal.decreases-layers
decreases-layers g l = l.limits.turns + 1 - length l.graph
