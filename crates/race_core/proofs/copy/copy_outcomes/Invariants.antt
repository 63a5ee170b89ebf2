use Rattle.std.proofs.Common.{◌≡◌, take}
use Rattle.race_core.proofs.copy.copy_outcomes.Given as goal

abbrev pub invariant-loop-outcome : goal.invariant-loop-outcome
invariant-loop-outcome l = l.copies ≡ take l.outcome-index l.outcomes
