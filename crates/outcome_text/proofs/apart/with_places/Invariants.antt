use Rattle.std.proofs.Common.{◌≡◌, ◌++◌, drop}
use Rattle.outcome_text.specs.Apart.{parts_in}
use Rattle.outcome_text.proofs.apart.with_places.Given as goal

-- those so far and those that are left make the whole
abbrev pub invariant-loop-place : goal.invariant-loop-place
invariant-loop-place l = parts_in l.all.items ++ drop l.place l.parts ≡ l.parts
