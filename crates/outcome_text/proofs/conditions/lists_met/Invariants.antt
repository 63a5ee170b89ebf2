use Rattle.std.proofs.Common.{◌≡◌, ◌≤◌, ◌+◌, drop}
use Rattle.std.specs.Prelude.{min, sum_by, if◌then◌else◌}
use Rattle.outcome_text.specs.declared.counts.TheConstants.{COUNT_MAX}
use Rattle.outcome_text.specs.Conditions.{counts}
use Rattle.outcome_text.specs.Survey.{lists_where}
use Rattle.outcome_text.proofs.conditions.lists_met.Given as goal

-- the lists so far and those that are left make the whole
abbrev pub invariant-loop-told : goal.invariant-loop-told
invariant-loop-told l = record {
  bounded : l.lists ≤ COUNT_MAX;
  whole : min (l.lists + sum_by (λ t. if counts l.properties t then t.lists else 0) (drop l.told-index l.all)) COUNT_MAX ≡ lists_where (counts l.properties) l.all;
}
