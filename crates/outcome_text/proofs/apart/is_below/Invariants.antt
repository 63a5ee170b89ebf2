use Rattle.std.proofs.Common.{◌≡◌, drop}
use Rattle.outcome_text.specs.Apart.{is_below}
use Rattle.outcome_text.proofs.apart.is_below.Given as goal

-- what is left decides
abbrev pub invariant-loop-at : goal.invariant-loop-at
invariant-loop-at l = is_below l.turns l.others ≡ is_below (drop l.at l.turns) (drop l.at l.others)
