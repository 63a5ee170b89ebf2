use Rattle.std.proofs.Common.{◌≡◌, drop}
use Rattle.std.specs.Prelude.{max}
use Rattle.outcome_text.specs.Merge.{longest}
use Rattle.outcome_text.proofs.merging.longest.Given as goal

-- the longest so far or of those that are left is the longest
abbrev pub invariant-loop-part : goal.invariant-loop-part
invariant-loop-part l = max l.turns (longest (drop l.part-index l.parts)) ≡ longest l.parts
