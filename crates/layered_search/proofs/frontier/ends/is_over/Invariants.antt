use Rattle.std.proofs.Common.{◌≡◌, ◌<◌, ℕ, List, false}
use Rattle.layered_search.specs.System.{state_after}
use Rattle.layered_search.proofs.frontier.ends.is_over.Given as goal

abbrev pub invariant-loop-actor : goal.invariant-loop-actor
invariant-loop-actor g l =
    let s = g.S.TransitionSystem.system l.system in
    let k = g.S.TransitionSystem.keys l.system in
    (n : ℕ) (is : List ℕ) → k.IsKey l.memory n (state_after s is) l.key
    → (i : ℕ) → i < l.actor → s.is_busy (state_after s is) i ≡ false
