use Rattle.std.proofs.Common.{◌≡◌, drop}
use Rattle.outcome_text.specs.Merge.{lacks, has_gap}
use Rattle.outcome_text.specs.Tellable.{any_numbered}
use Rattle.outcome_text.proofs.merging.first_missing_by.Given as goal

-- what is left decides
abbrev pub invariant-loop-at : goal.invariant-loop-at
invariant-loop-at l = any_numbered (lacks l.parts l.part) l.at (drop l.at l.part.might.items) ≡ has_gap l.parts l.part
