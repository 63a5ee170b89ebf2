use Rattle.std.proofs.Common.{◌≡◌, drop}
use Rattle.std.specs.List.{list_any}
use Rattle.outcome_text.specs.Merge.{has_gap}
use Rattle.outcome_text.proofs.merging.first_missing.Given as goal

-- what is left decides
abbrev pub invariant-loop-place : goal.invariant-loop-place
invariant-loop-place l = list_any (has_gap l.parts) (drop l.place l.parts) ≡ list_any (has_gap l.parts) l.parts
