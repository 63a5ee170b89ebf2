use Rattle.layered_search.specs.Limits.{scope_of}
use Rattle.std.proofs.Common.{◌≡◌, ◌≤◌, ◌+◌, take}
use Rattle.layered_search.specs.System.{state_after}
use Rattle.layered_search.specs.Points.{AreWithin}
use Rattle.layered_search.specs.States.{IsSoFar}
use Rattle.layered_search.proofs.Layers.Beginning.{key_now}
use Rattle.layered_search.proofs.begin.can_begin.Given as goal

abbrev pub invariant-loop-at : goal.invariant-loop-at
invariant-loop-at g l =
    let s = g.S.TransitionSystem.system l.system in
    let k = g.S.TransitionSystem.keys l.system in
    record {
      turns : l.turns.items ≡ take l.at l.limits.scope.begin.items;
      sound : k.IsSound l.memory;
      grows : k.Grows l.fn.memory l.memory;
      key : k.IsKey l.memory l.at (state_after s l.turns.items) (key_now l.own l.key);
      so_far : IsSoFar s (scope_of l.limits.scope) l.turns.items l.cost;
      within : AreWithin l.cost l.at;
      few : l.at ≤ l.limits.turns + 1;
    }
