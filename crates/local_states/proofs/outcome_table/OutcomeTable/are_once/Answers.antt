use Rattle.std.proofs.Common.{List, subst}
use Rattle.race_core.specs.declared.report.Outcome.{Outcome}
use Rattle.local_states.specs.Distinct.{AreEachOnce}
use Rattle.local_states.proofs.outcome_table.OutcomeTable.are_once.Goals as goal

pub returns : goal.returns
returns c = subst (λ (xs : List Outcome). AreEachOnce xs) c.self.view_is c.self.invariant
