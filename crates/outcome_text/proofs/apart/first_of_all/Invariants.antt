use Rattle.std.proofs.Common.{◌≡◌, drop}
use Rattle.outcome_text.specs.Merge.{are_apart}
use Rattle.outcome_text.proofs.apart.first_of_all.Given as goal

-- what is left decides
abbrev pub invariant-loop-at : goal.invariant-loop-at
invariant-loop-at l = are_apart (drop l.at l.parts) ≡ are_apart l.parts
