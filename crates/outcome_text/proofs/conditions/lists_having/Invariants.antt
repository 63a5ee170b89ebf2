use Rattle.std.proofs.Common.{◌≡◌, ◌≤◌, ◌+◌, drop}
use Rattle.std.specs.Prelude.{min, not, sum_by, if◌then◌else◌}
use Rattle.outcome_text.specs.declared.counts.TheConstants.{COUNT_MAX}
use Rattle.outcome_text.specs.Conditions.{lists_having}
use Rattle.outcome_text.specs.Survey.{breaks}
use Rattle.outcome_text.proofs.conditions.lists_having.Given as goal

-- the lists so far and those that are left make the whole
abbrev pub invariant-loop-told : goal.invariant-loop-told
invariant-loop-told l = record {
  bounded : l.lists ≤ COUNT_MAX;
  whole : min (l.lists + sum_by (λ t. if not (breaks l.property t) then t.lists else 0) (drop l.told-index l.all)) COUNT_MAX ≡ lists_having l.all l.property;
}
