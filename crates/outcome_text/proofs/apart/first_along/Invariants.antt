use Rattle.std.proofs.Common.{◌≡◌, drop}
use Rattle.std.specs.List.{list_any}
use Rattle.outcome_text.specs.Merge.{goes_along}
use Rattle.outcome_text.proofs.apart.first_along.Given as goal

-- what is left decides
abbrev pub invariant-loop-at : goal.invariant-loop-at
invariant-loop-at l = list_any (goes_along l.part) (drop l.at l.parts) ≡ list_any (goes_along l.part) l.parts
