use Rattle.std.proofs.Common.{◌≡◌, drop}
use Rattle.outcome_text.specs.Apart.{parts_in, rise_after}
use Rattle.outcome_text.proofs.apart.rise_after.Given as goal

-- what is left decides
abbrev pub invariant-loop-placed : goal.invariant-loop-placed
invariant-loop-placed l = rise_after l.last (parts_in (drop l.placed-index l.parts)) ≡ rise_after l.first (parts_in l.parts)
