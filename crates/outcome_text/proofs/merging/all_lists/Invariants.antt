use Rattle.std.proofs.Common.{◌≡◌, ◌≤◌, ◌+◌, drop}
use Rattle.std.specs.Prelude.{min, sum_by}
use Rattle.outcome_text.specs.declared.counts.TheConstants.{COUNT_MAX}
use Rattle.outcome_text.specs.Merge.{all_lists}
use Rattle.outcome_text.proofs.merging.all_lists.Given as goal

-- the lists so far and those that are left make the whole
abbrev pub invariant-loop-part : goal.invariant-loop-part
invariant-loop-part l = record {
  bounded : l.lists ≤ COUNT_MAX;
  whole : min (l.lists + sum_by (λ p. p.lists) (drop l.part-index l.parts)) COUNT_MAX ≡ all_lists l.parts;
}
