use Rattle.std.proofs.Common.{◌≡◌, ◌<◌, ℕ}
use Rattle.std.specs.Prelude.{slice_get, Some}
use Rattle.race_core.specs.Renamed.{outcome_by}
use Rattle.local_states.proofs.outcome_table.OutcomeTable.place_of.Given as goal

abbrev pub invariant-loop-at : goal.invariant-loop-at
invariant-loop-at l = (k : ℕ) → k < l.at → slice_get l.self k ≡ Some (outcome_by (λ h. 0) l.outcome) → ⊥
