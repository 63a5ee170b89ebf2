use Rattle.std.proofs.Common.{◌≡◌, ◌≤◌, true, drop, length}
use Rattle.outcome_text.specs.Schedule.{rises}
use Rattle.outcome_text.proofs.schedule.before_tail.Given as goal

abbrev pub decreases-loop-kept : goal.decreases-loop-kept
decreases-loop-kept l = l.kept

-- what is left rises
abbrev pub invariant-loop-kept : goal.invariant-loop-kept
invariant-loop-kept l = record {
  within : l.kept ≤ length l.list;
  tail : rises (drop l.kept l.list) ≡ true;
}
