use Rattle.std.proofs.Common.{take}
use Rattle.race_core.specs.Renamed.{outcomes_by}
use Rattle.local_states.specs.HandleTables.{AreNamed}
use Rattle.local_states.specs.Distinct.{Keeps}
use Rattle.local_states.proofs.outcome_table.OutcomeTable.put_all.Given as goal

abbrev pub invariant-loop-outcome : goal.invariant-loop-outcome
invariant-loop-outcome l = record {
  keeps : Keeps l.initial.self l.self;
  are : AreNamed l.self l.places.items (outcomes_by (λ h. 0) (take l.outcome-index l.outcomes));
}
