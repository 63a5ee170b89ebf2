use Rattle.std.proofs.Common.{◌≡◌, drop}
use Rattle.outcome_text.specs.Merge.{is_there}
use Rattle.outcome_text.proofs.nearby.is_in.Given as goal

-- what is left decides
abbrev pub invariant-loop-part : goal.invariant-loop-part
invariant-loop-part l = is_there (drop l.part-index l.parts) l.turns ≡ is_there l.parts l.turns
