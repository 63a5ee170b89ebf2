use Rattle.std.proofs.Common.{◌≡◌, ◌<◌, ℕ}
use Rattle.std.specs.Prelude.{slice_get, Some}
use Rattle.layered_search.specs.declared.found.Found.{Found}
use Rattle.layered_search.proofs.frontier.ends.place_of.Given as goal

abbrev pub invariant-loop-at : goal.invariant-loop-at
invariant-loop-at g l =
    let o = g.S.TransitionSystem.outcomes l.system in
    (m : ℕ) (one : Found g.row.S-Outcome.Denot) → m < l.at → slice_get l.found m ≡ Some one
    → o.AreSame one.outcome l.outcome → ⊥
