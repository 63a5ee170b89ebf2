use Rattle.std.proofs.Common.{◌≡◌, drop}
use Rattle.scripts.specs.Labels.{giver_of}
use Rattle.scripts.proofs.labels.giver_of.Given as goal

-- no label so far is that one
abbrev pub invariant-loop-label : goal.invariant-loop-label
invariant-loop-label l = giver_of (drop l.label-index l.labels) l.text ≡ giver_of l.labels l.text
