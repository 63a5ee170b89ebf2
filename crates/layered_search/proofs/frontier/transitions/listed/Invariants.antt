use Rattle.std.proofs.Common.{◌≡◌, ℕ, length}
use Rattle.layered_search.specs.Kept.{HaveKeys, layer_of}
use Rattle.layered_search.specs.Transitions.{AreFirstChoices, AreTransitions}
use Rattle.layered_search.proofs.frontier.transitions.listed.Given as goal

abbrev pub invariant-loop-at : goal.invariant-loop-at
invariant-loop-at g l =
    let s = g.S.TransitionSystem.system l.system in
    let k = g.S.TransitionSystem.keys l.system in
    record {
      many : length l.all.items ≡ l.at;
      rows : length l.transitions.items ≡ length l.layer.states.items;
      transitions : (n : ℕ) → HaveKeys s k l.memory n l.layer.states.items
          → AreTransitions s l.bounds (layer_of l.layer) l.transitions.items;
      choices : (n : ℕ) → HaveKeys s k l.memory n l.layer.states.items
          → AreFirstChoices s l.bounds (layer_of l.layer) l.transitions.items l.all.items;
    }
