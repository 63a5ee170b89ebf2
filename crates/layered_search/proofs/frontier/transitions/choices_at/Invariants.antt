use Rattle.std.proofs.Common.{◌≡◌, ◌⊎◌, ℕ, List}
use Rattle.std.specs.Prelude.{slice_get, Some}
use Rattle.layered_search.specs.declared.frontier.transitions.Transition.{Transition}
use Rattle.layered_search.specs.System.{state_after}
use Rattle.layered_search.specs.Distinct.{Keeps}
use Rattle.layered_search.specs.Transitions.{IsOneOf}
use Rattle.layered_search.proofs.Layers.Choosing.{AreChoicesBelow}
use Rattle.layered_search.proofs.frontier.transitions.choices_at.Given as goal

abbrev pub invariant-loop-number : goal.invariant-loop-number
invariant-loop-number g l =
    let s = g.S.TransitionSystem.system l.system in
    let k = g.S.TransitionSystem.keys l.system in
    record {
      keeps : Keeps l.fn.transitions.items l.transitions.items;
      new : (n : ℕ) (is : List ℕ) → k.IsKey l.memory n (state_after s is) l.key → (j : ℕ) (one : Transition)
          → slice_get l.transitions.items j ≡ Some one → (slice_get l.fn.transitions.items j ≡ Some one)
          ⊎ IsOneOf s l.bounds l.configuration (record { state = state_after s is; cost = l.cost }) one;
      choices : (n : ℕ) (is : List ℕ) → k.IsKey l.memory n (state_after s is) l.key
          → AreChoicesBelow s l.bounds (record { state = state_after s is; cost = l.cost }) l.transitions.items l.number
          l.choices.items;
    }
